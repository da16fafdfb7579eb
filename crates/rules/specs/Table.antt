-- The table text: its records, when it is accepted, and refusals 1 to 5 with their line.
use Rattle.std.specs.Prelude.{Bool, true, ℕ, zero, suc, ◌+◌, ◌*◌, List, [], ◌∷◌, ◌++◌, map, length, drop, get_or, eqb, ltb, leb}
use Rattle.cells.specs.Part.{if, cell, part}
use Rattle.rules.specs.Plain.{ascii, all, both, unless, ascending, before}
use Rattle.rules.specs.Ceilings.{most_text, most_names, longest_name, most_entries, most_ids, most_pairs, most_marks, most_roots}
use Rattle.rules.specs.Text.{line_feed, pieces, Kind, no_kind, row_of, a_number, a_code, a_flag, a_list, a_dyn, some_fields, a_sign, a_name}
use Rattle.std.proofs.Math.Option.{Option, none, some}

pub record Field : Type 0 where
  pub key : ℕ
  pub type : ℕ

-- AttrSetTy: of entries by id, and of nodes by node number
pub record Attr : Type 0 where
  pub fields : List Field
  pub dyn : Option ℕ
  pub is_open : ℕ
  pub optional : List ℕ

-- TypeEntry and Ty
pub data Entry : Type 0 where
  var : List ℕ → List ℕ → Entry
  prim : ℕ → Entry
  tyvar : ℕ → Entry
  list : ℕ → Entry
  fn : ℕ → ℕ → Entry
  set : Attr → Entry
  neg : ℕ → Entry
  named : ℕ → ℕ → Entry
  inter : ℕ → ℕ → Entry
  union : ℕ → ℕ → Entry
  frozen : Entry

-- the sections, in their order
abbrev pub budget_section : ℕ
budget_section = 0

abbrev pub names_section : ℕ
names_section = 1

abbrev pub entries_section : ℕ
entries_section = 2

abbrev pub pairs_section : ℕ
pairs_section = 3

abbrev pub marks_section : ℕ
marks_section = 4

abbrev pub roots_section : ℕ
roots_section = 5

-- the kinds of lines of a table, by number
abbrev pub budget_row : ℕ
budget_row = 0

abbrev pub name_row : ℕ
name_row = 1

abbrev pub var_entry : ℕ
var_entry = 2

abbrev pub prim_entry : ℕ
prim_entry = 3

abbrev pub tyvar_entry : ℕ
tyvar_entry = 4

abbrev pub list_entry : ℕ
list_entry = 5

abbrev pub fn_entry : ℕ
fn_entry = 6

abbrev pub set_entry : ℕ
set_entry = 7

abbrev pub neg_entry : ℕ
neg_entry = 8

abbrev pub named_entry : ℕ
named_entry = 9

abbrev pub inter_entry : ℕ
inter_entry = 10

abbrev pub union_entry : ℕ
union_entry = 11

abbrev pub frozen_entry : ℕ
frozen_entry = 12

abbrev pub pair_row : ℕ
pair_row = 13

abbrev pub mark_row : ℕ
mark_row = 14

abbrev pub root_row : ℕ
root_row = 15

abbrev pub kind_in : ℕ → List ℕ → List ℕ → Kind
kind_in section word shape = record { word = word; section = section; shape = shape }

-- the same kinds in the order of their numbers: keyword, section, fields
abbrev pub kinds : List Kind
kinds =
    kind_in budget_section (ascii "budget") (a_number ∷ [])
    ∷ kind_in names_section (ascii "name") (a_name ∷ [])
    ∷ kind_in entries_section (ascii "var") (a_list ∷ a_list ∷ [])
    ∷ kind_in entries_section (ascii "prim") (a_code ∷ [])
    ∷ kind_in entries_section (ascii "tyvar") (a_number ∷ [])
    ∷ kind_in entries_section (ascii "list") (a_number ∷ [])
    ∷ kind_in entries_section (ascii "fn") (a_number ∷ a_number ∷ [])
    ∷ kind_in entries_section (ascii "set") (some_fields ∷ a_dyn ∷ a_flag ∷ a_list ∷ [])
    ∷ kind_in entries_section (ascii "neg") (a_number ∷ [])
    ∷ kind_in entries_section (ascii "named") (a_number ∷ a_number ∷ [])
    ∷ kind_in entries_section (ascii "inter") (a_number ∷ a_number ∷ [])
    ∷ kind_in entries_section (ascii "union") (a_number ∷ a_number ∷ [])
    ∷ kind_in entries_section (ascii "frozen") []
    ∷ kind_in pairs_section (ascii "pair") (a_number ∷ a_number ∷ [])
    ∷ kind_in marks_section (ascii "mark") (a_number ∷ [])
    ∷ kind_in roots_section (ascii "root") (a_number ∷ a_sign ∷ [])
    ∷ []

-- the section of the kind with this number
unfoldable pub section_of : ℕ → ℕ
section_of k = (get_or kinds k no_kind).section

-- the fields of a set in a row, n of them from place a on
abbrev pub fields_at : List ℕ → ℕ → ℕ → List Field
fields_at row a zero = []
fields_at row a (suc n) = record { key = cell row a; type = cell row (a + 1) } ∷ fields_at row (a + 2) n

abbrev pub dyn_at : List ℕ → ℕ → Option ℕ
dyn_at row a = if (eqb (cell row a) 0) (λ _. none) (λ _. some (cell row (a + 1)))

-- the set whose words stand in a row from a on, its dyn from d on, its open flag at o
abbrev pub attr_from : List ℕ → ℕ → ℕ → ℕ → Attr
attr_from row a d o =
    record { fields = fields_at row (a + 1) (cell row a); dyn = dyn_at row d; is_open = cell row o; optional = part row (o + 2) (cell row (o + 1)) }

abbrev pub dyn_place : List ℕ → ℕ → ℕ
dyn_place row a = a + 1 + 2 * cell row a

abbrev pub open_place : List ℕ → ℕ → ℕ
open_place row d = d + 1 + cell row d

unfoldable pub attr_at : List ℕ → ℕ → Attr
attr_at row a = attr_from row a (dyn_place row a) (open_place row (dyn_place row a))

-- what a row says, by the number of its kind
unfoldable pub entry_of : List ℕ → Entry
entry_of row =
    if (eqb (cell row 0) var_entry) (λ _. var (part row 2 (cell row 1)) (part row (3 + cell row 1) (cell row (2 + cell row 1))))
    (λ _. if (eqb (cell row 0) prim_entry) (λ _. prim (cell row 1))
    (λ _. if (eqb (cell row 0) tyvar_entry) (λ _. tyvar (cell row 1))
    (λ _. if (eqb (cell row 0) list_entry) (λ _. list (cell row 1))
    (λ _. if (eqb (cell row 0) fn_entry) (λ _. fn (cell row 1) (cell row 2))
    (λ _. if (eqb (cell row 0) set_entry) (λ _. set (attr_at row 1))
    (λ _. if (eqb (cell row 0) neg_entry) (λ _. neg (cell row 1))
    (λ _. if (eqb (cell row 0) named_entry) (λ _. named (cell row 1) (cell row 2))
    (λ _. if (eqb (cell row 0) inter_entry) (λ _. inter (cell row 1) (cell row 2))
    (λ _. if (eqb (cell row 0) union_entry) (λ _. union (cell row 1) (cell row 2))
    (λ _. frozen))))))))))

-- the number of an entry's kind
abbrev pub entry_kind : Entry → ℕ
entry_kind (var l u) = var_entry
entry_kind (prim c) = prim_entry
entry_kind (tyvar x) = tyvar_entry
entry_kind (list a) = list_entry
entry_kind (fn a b) = fn_entry
entry_kind (set a) = set_entry
entry_kind (neg a) = neg_entry
entry_kind (named n a) = named_entry
entry_kind (inter a b) = inter_entry
entry_kind (union a b) = union_entry
entry_kind frozen = frozen_entry

abbrev pub field_types : List Field → List ℕ
field_types fs = map (λ (f : Field). f.type) fs

abbrev pub field_keys : List Field → List ℕ
field_keys fs = map (λ (f : Field). f.key) fs

abbrev pub dyn_ids : Option ℕ → List ℕ
dyn_ids none = []
dyn_ids (some d) = d ∷ []

-- children of a set: fields, then dyn
abbrev pub attr_kids : Attr → List ℕ
attr_kids a = field_types a.fields ++ dyn_ids a.dyn

-- the ids in bounds and children, from left to right
abbrev pub kids : Entry → List ℕ
kids (var l u) = l ++ u
kids (prim c) = []
kids (tyvar x) = []
kids (list a) = a ∷ []
kids (fn a b) = a ∷ b ∷ []
kids (set a) = attr_kids a
kids (neg a) = a ∷ []
kids (named n a) = a ∷ []
kids (inter a b) = a ∷ b ∷ []
kids (union a b) = a ∷ b ∷ []
kids frozen = []

abbrev pub as_set : Entry → Option Attr
as_set (var l u) = none
as_set (prim c) = none
as_set (tyvar x) = none
as_set (list a) = none
as_set (fn a b) = none
as_set (set a) = some a
as_set (neg a) = none
as_set (named n a) = none
as_set (inter a b) = none
as_set (union a b) = none
as_set frozen = none

abbrev pub keys_in : Option Attr → List ℕ
keys_in none = []
keys_in (some a) = field_keys a.fields ++ a.optional

-- the number of a Named's name: neither an id nor a key of the ceiling
abbrev pub aliases : Entry → List ℕ
aliases (var l u) = []
aliases (prim c) = []
aliases (tyvar x) = []
aliases (list a) = []
aliases (fn a b) = []
aliases (set a) = []
aliases (neg a) = []
aliases (named n a) = n ∷ []
aliases (inter a b) = []
aliases (union a b) = []
aliases frozen = []

-- "Field keys and optional keys are name numbers, each strictly ascending; an optional key needn't be a field"
abbrev pub keys_ascend : Option Attr → Bool
keys_ascend none = true
keys_ascend (some a) = both (ascending (field_keys a.fields)) (λ _. ascending a.optional)

-- "ids and keys in entries, optional keys too"
abbrev pub weight : Entry → ℕ
weight e = length (kids e) + length (keys_in (as_set e))

-- each section's rows, without the number of their kind but for the entries
pub record Sections : Type 0 where
  pub budget : ℕ
  pub names : List (List ℕ)
  pub entries : List (List ℕ)
  pub pairs : List (List ℕ)
  pub marks : List (List ℕ)
  pub roots : List (List ℕ)

-- what was read so far. stage: 0 before the budget line, then the section that a line may still be of; ids: those in the entries
pub record Reading : Type 0 where
  pub stage : ℕ
  pub table : Sections
  pub ids : ℕ

abbrev pub nothing : Reading
nothing = record { stage = 0; ids = 0; table = record { budget = 0; names = []; entries = []; pairs = []; marks = []; roots = [] } }

-- "Sections in this order"; exactly one budget line, and it is the first
abbrev pub in_order : ℕ → ℕ → Bool
in_order stage s = if (eqb stage 0) (λ _. eqb s budget_section) (λ _. leb stage s)

abbrev pub add_row : Sections → ℕ → List ℕ → Sections
add_row t s row =
    if (eqb s budget_section)
    (λ _. record { budget = cell row 1; names = t.names; entries = t.entries; pairs = t.pairs; marks = t.marks; roots = t.roots })
    (λ _. if (eqb s names_section)
    (λ _. record {
      budget = t.budget;
      names = t.names ++ (drop 1 row ∷ []);
      entries = t.entries;
      pairs = t.pairs;
      marks = t.marks;
      roots = t.roots;
    })
    (λ _. if (eqb s entries_section)
    (λ _. record {
      budget = t.budget;
      names = t.names;
      entries = t.entries ++ (row ∷ []);
      pairs = t.pairs;
      marks = t.marks;
      roots = t.roots;
    })
    (λ _. if (eqb s pairs_section)
    (λ _. record {
      budget = t.budget;
      names = t.names;
      entries = t.entries;
      pairs = t.pairs ++ (drop 1 row ∷ []);
      marks = t.marks;
      roots = t.roots;
    })
    (λ _. if (eqb s marks_section)
    (λ _. record {
      budget = t.budget;
      names = t.names;
      entries = t.entries;
      pairs = t.pairs;
      marks = t.marks ++ (drop 1 row ∷ []);
      roots = t.roots;
    })
    (λ _. record {
      budget = t.budget;
      names = t.names;
      entries = t.entries;
      pairs = t.pairs;
      marks = t.marks;
      roots = t.roots ++ (drop 1 row ∷ []);
    })))))

abbrev pub row_weight : ℕ → List ℕ → ℕ
row_weight s row = if (eqb s entries_section) (λ _. weight (entry_of row)) (λ _. 0)

abbrev pub stage_after : ℕ → ℕ
stage_after s = if (eqb s budget_section) (λ _. names_section) (λ _. s)

abbrev pub add : Reading → ℕ → List ℕ → Reading
add r s row = record { stage = stage_after s; table = add_row r.table s row; ids = r.ids + row_weight s row }

-- 2: a ceiling is passed
abbrev pub over : Reading → ℕ → List ℕ → Bool
over q s row =
    if (ltb most_names (length q.table.names)) (λ _. true)
    (λ _. if (both (eqb s names_section) (λ _. ltb longest_name (length (drop 1 row)))) (λ _. true)
    (λ _. if (ltb most_entries (length q.table.entries)) (λ _. true)
    (λ _. if (ltb most_ids q.ids) (λ _. true)
    (λ _. if (ltb most_pairs (length q.table.pairs)) (λ _. true)
    (λ _. if (ltb most_marks (length q.table.marks)) (λ _. true)
    (λ _. ltb most_roots (length q.table.roots)))))))

-- the new name comes after the last one
abbrev pub after_last : List (List ℕ) → List ℕ → Bool
after_last [] new = true
after_last (l ∷ []) new = before l new
after_last (l ∷ m ∷ ls) new = after_last (m ∷ ls) new

-- 4: names or keys don't ascend
abbrev pub ascends : Sections → ℕ → List ℕ → Bool
ascends t s row =
    if (eqb s names_section) (λ _. after_last t.names (drop 1 row))
    (λ _. if (eqb s entries_section) (λ _. keys_ascend (as_set (entry_of row))) (λ _. true))

pub data Admission : Type 0 where
  admitted : Reading → Admission
  fault : ℕ → Admission

-- "1, 2, 4, 5 .. in that order on one line"
abbrev pub admit : Reading → ℕ → List ℕ → Admission
admit r s row =
    unless (in_order r.stage s) (λ _. fault 1)
    (λ _. if (over (add r s row) s row) (λ _. fault 2)
    (λ _. unless (ascends r.table s row) (λ _. fault 4)
    (λ _. if (eqb (cell row 0) frozen_entry) (λ _. fault 5)
    (λ _. admitted (add r s row)))))

abbrev pub in_form : Reading → Option (List ℕ) → Admission
in_form r none = fault 1
in_form r (some row) = admit r (section_of (cell row 0)) row

unfoldable pub step : Reading → List ℕ → Admission
step r line = in_form r (row_of kinds line)

pub data Result (A : Type 0) : Type 0 where
  accepted : A → Result A
  refused : ℕ → ℕ → Result A

abbrev pub then : {A B : Type 0} → Result A → (A → Result B) → Result B
then (accepted a) f = f a
then (refused k l) f = refused k l

abbrev pub at_line : ℕ → Admission → Result Reading
at_line k (admitted r) = accepted r
at_line k (fault n) = refused n k

-- "A missing budget line is told at the line where it should be"
abbrev pub begun : Reading → ℕ → Result Sections
begun r k = if (eqb r.stage 0) (λ _. refused 1 k) (λ _. accepted r.table)

-- the lines from line k on; what stands after the last line feed is no line, and must be empty
abbrev pub lines : ℕ → Reading → List (List ℕ) → Result Sections
lines k r [] = begun r k
lines k r ([] ∷ []) = begun r k
lines k r ((b ∷ l) ∷ []) = refused 1 k
lines k r (l ∷ m ∷ ls) = then (at_line k (step r l)) (λ (q : Reading). lines (suc k) q (m ∷ ls))

abbrev pub all_below : ℕ → List ℕ → Bool
all_below n xs = all (λ (x : ℕ). ltb x n) xs

abbrev pub in_range : ℕ → ℕ → Entry → Bool
in_range n names e = both (all_below n (kids e)) (λ _. all_below names (keys_in (as_set e) ++ aliases e))

-- 3 at the first row, counted from line k, that the test does not pass
abbrev pub known : (List ℕ → Bool) → ℕ → List (List ℕ) → Result (Unit {0})
known p k [] = accepted tt
known p k (r ∷ rs) = if (p r) (λ _. known p (suc k) rs) (λ _. refused 3 k)

-- the line of the first entry, and of the first root
abbrev pub entry_line : Sections → ℕ
entry_line t = 2 + length t.names

abbrev pub root_line : Sections → ℕ
root_line t = entry_line t + length t.entries + length t.pairs + length t.marks

-- "Ids in bounds, children and roots must be below the entry count n", name numbers below the name count; "then 3 on the earliest line"
unfoldable pub in_table : Sections → Result Sections
in_table t =
    then (known (λ (row : List ℕ). in_range (length t.entries) (length t.names) (entry_of row)) (entry_line t) t.entries)
    (λ _. then (known (λ (row : List ℕ). ltb (cell row 0) (length t.entries)) (root_line t) t.roots) (λ _. accepted t))

-- the sections of a table text, or its refusal with number and line
unfoldable pub sections_of : List ℕ → Result Sections
sections_of text =
    if (ltb most_text (length text)) (λ _. refused 2 0)
    (λ _. then (lines 1 nothing (pieces line_feed text)) in_table)

-- two ids that are one variable
pub record Pair : Type 0 where
  pub first : ℕ
  pub second : ℕ

-- an id whose type is asked for, and its sign: 0 for `+`, 1 for `-`
pub record Root : Type 0 where
  pub id : ℕ
  pub sign : ℕ

pub record Table : Type 0 where
  pub budget : ℕ
  pub names : List (List ℕ)
  pub entries : List (List ℕ)
  pub pairs : List Pair
  pub marks : List ℕ
  pub roots : List Root

abbrev pub pair_of : List ℕ → Pair
pair_of row = record { first = cell row 0; second = cell row 1 }

abbrev pub root_of : List ℕ → Root
root_of row = record { id = cell row 0; sign = cell row 1 }

abbrev pub from_sections : Sections → Table
from_sections s = record {
  budget = s.budget;
  names = s.names;
  entries = s.entries;
  pairs = map pair_of s.pairs;
  marks = map (λ (row : List ℕ). cell row 0) s.marks;
  roots = map root_of s.roots;
}

-- the table that a text says, or its refusal
unfoldable pub table_of : List ℕ → Result Table
table_of text = then (sections_of text) (λ (s : Sections). accepted (from_sections s))

-- "pair (a, b) gives the merged class b's representative": each id's representative, of ids below n
abbrev pub join_classes : List ℕ → ℕ → ℕ → List ℕ
join_classes reps ra rb = map (λ (r : ℕ). if (eqb r ra) (λ _. rb) (λ _. r)) reps

-- a number of n or more is its own representative
abbrev pub rep_in : List ℕ → ℕ → ℕ
rep_in reps id = get_or reps id id

-- EquivDsu::union; "a pair with such an id does nothing"
abbrev pub join_pair : List ℕ → Pair → List ℕ
join_pair reps pair =
    if (both (ltb pair.first (length reps)) (λ _. ltb pair.second (length reps)))
    (λ _. join_classes reps (rep_in reps pair.first) (rep_in reps pair.second))
    (λ _. reps)

abbrev pub join_pairs : List ℕ → List Pair → List ℕ
join_pairs reps [] = reps
join_pairs reps (p ∷ ps) = join_pairs (join_pair reps p) ps

abbrev pub upward : ℕ → ℕ → List ℕ
upward a zero = []
upward a (suc n) = a ∷ upward (suc a) n

-- EquivDsu::from_storage: the representatives, "pairs in order"
unfoldable pub representatives : Table → List ℕ
representatives t = join_pairs (upward 0 (length t.entries)) t.pairs
