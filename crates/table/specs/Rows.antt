-- The table as rows: what the rows say, and what the functions ask and ensure.
use Rattle.std.specs.Prelude.{◌≡◌, Bool, true, false, ℕ, zero, suc, ◌+◌, ◌-◌, ◌≤◌, ◌<◌, List, [], ◌∷◌, ◌++◌, map, length, drop, eqb, ltb}
use Rattle.cells.specs.Part.{run, cell, part, if}
use Rattle.rules.specs.Plain.{both, ascending, before}
use Rattle.rules.specs.Ceilings.{most_text, most_names, longest_name, most_entries, most_ids, most_pairs, most_marks, most_roots}
use Rattle.rules.specs.Text.{line_feed, pieces}
use Rattle.rules.specs.Table.{entry_of, section_of, dyn_place, open_place, kids, as_set, keys_ascend, weight, all_below, in_range, in_order, row_weight}
use Rattle.rules.specs.Table.{stage_after, frozen_entry, Reading, nothing, Admission, admitted, fault, step, Result, accepted, refused, then, lines}
use Rattle.rules.specs.Table.{known, in_table, sections_of}
use Rattle.rules.specs.Table as rules
use Rattle.text.specs.Reads.{span}
use Rattle.text.specs.Keywords.{Slots, kinds_in}
use Rattle.layout.specs.Layout.{rows_at, table_words, table_length}
use Rattle.table.specs.declared.Table.{Table}
use Rattle.table.specs.declared.rows.Places.{Places}
use Rattle.table.specs.declared.judging.Progress.{Progress}
use Rattle.table.specs.declared.kinds.Kind.{Kind}
use Rattle.table.specs.declared.kinds.Kind.TheVariants.{Var, List as ListOf, Fn, Set, Neg, Named, Inter, Union, Frozen as FrozenEntry, Other}
use Rattle.table.specs.declared.judging.Section.{Section}
use Rattle.table.specs.declared.judging.Section.TheVariants.{Budget, Names, Entries, Pairs, Marks, Roots}
use Rattle.std.specs.Prelude as std
use Rattle.std.specs.Prelude.{Ok, Err}
use Rattle.rules.specs.declared.Refusal.{Refusal}
use Rattle.rules.specs.declared.Refusal.TheVariants.{Form, Ceiling, Ascent, Frozen}
use Rattle.rules.specs.declared.Fault.{Fault}
use Rattle.rules.specs.Refusals.{number}

-- a row for each line at its ceiling
abbrev pub most_lines : ℕ
most_lines = 1 + most_names + most_entries + most_pairs + most_marks + most_roots

-- where row i begins, and the row before it ends
abbrev pub begin_at : List ℕ → ℕ → ℕ
begin_at w i = cell w (rows_at + i)

pub record Begin (w : List ℕ) (i r : ℕ) : Type 0 where
  pub is : r ≡ begin_at w i

-- what stands in a row, k after its kind
pub record At (w : List ℕ) (from to k r : ℕ) : Type 0 where
  pub is : r ≡ cell (span w from to) k

-- the rules' number of a section
abbrev pub number_of_section : Section → ℕ
number_of_section Budget = 0
number_of_section Names = 1
number_of_section Entries = 2
number_of_section Pairs = 3
number_of_section Marks = 4
number_of_section Roots = 5

-- the section that a line may still be of: the budget's before the budget line
abbrev pub stage_of : Progress → ℕ
stage_of p = number_of_section p.stage

-- the section that a line may be of after one of section s
abbrev pub section_after : Section → Section
section_after Budget = Names
section_after Names = Names
section_after Entries = Entries
section_after Pairs = Pairs
section_after Marks = Marks
section_after Roots = Roots

pub record SectionOf (kind : ℕ) (r : Section) : Type 0 where
  pub is : number_of_section r ≡ section_of kind

-- n cells of a row: those at a, a + step, ..
abbrev pub every : List ℕ → ℕ → ℕ → ℕ → List ℕ
every row step a zero = []
every row step a (suc n) = cell row a ∷ every row step (a + step) n

-- small enough for the last place to be a number of the machine
pub record Steps (a step n : ℕ) : Type 0 where
  pub start : a ≤ 68719476736
  pub stride : step ≤ 2
  pub count : n ≤ 4294967296

pub record Ascend (w : List ℕ) (from to a step n : ℕ) (r : Bool) : Type 0 where
  pub is : r ≡ ascending (every (span w from to) step a n)

pub record Below (w : List ℕ) (from to a step n limit : ℕ) (r : Bool) : Type 0 where
  pub is : r ≡ all_below limit (every (span w from to) step a n)

pub record Before (w : List ℕ) (a m b t : ℕ) (r : Bool) : Type 0 where
  pub is : r ≡ before (span w a m) (span w b t)

pub record Present (x r : ℕ) : Type 0 where
  pub is : r ≡ if (eqb x 0) (λ _. 0) (λ _. 1)
  pub small : r ≤ 1

-- the places of a set in its row
pub record PlacedIn (row : List ℕ) (p : Places) : Type 0 where
  pub fields : p.fields ≡ cell row 1
  pub dynamic : p.dynamic ≡ dyn_place row 1
  pub held : p.held ≡ if (eqb (cell row (dyn_place row 1)) 0) (λ _. 0) (λ _. 1)
  pub opens : p.opens ≡ open_place row (dyn_place row 1)
  pub optional : p.optional ≡ cell row (open_place row (dyn_place row 1) + 1)
  pub few_fields : p.fields < 4294967296
  pub low_dynamic : p.dynamic < 17179869184
  pub few_held : p.held ≤ 1
  pub low_opens : p.opens < 34359738368
  pub few_optional : p.optional < 4294967296

pub record Placed (w : List ℕ) (from to : ℕ) (p : Places) : Type 0 where
  pub is : PlacedIn (span w from to) p

-- the number of none of the kinds with a name
pub record Unnamed (n : ℕ) : Type 0 where
  pub no_var : n ≡ 2 → ⊥
  pub no_list : n ≡ 5 → ⊥
  pub no_fn : n ≡ 6 → ⊥
  pub no_set : n ≡ 7 → ⊥
  pub no_neg : n ≡ 8 → ⊥
  pub no_named : n ≡ 9 → ⊥
  pub no_inter : n ≡ 10 → ⊥
  pub no_union : n ≡ 11 → ⊥
  pub no_frozen : n ≡ 12 → ⊥

-- the kind that a row's number names
abbrev pub Numbered : Kind → ℕ → Type 0
Numbered Var n = n ≡ 2
Numbered ListOf n = n ≡ 5
Numbered Fn n = n ≡ 6
Numbered Set n = n ≡ 7
Numbered Neg n = n ≡ 8
Numbered Named n = n ≡ 9
Numbered Inter n = n ≡ 10
Numbered Union n = n ≡ 11
Numbered FrozenEntry n = n ≡ 12
Numbered Other n = Unnamed n

pub record KindOf (n : ℕ) (k : Kind) : Type 0 where
  pub is : Numbered k n

pub record Weight (w : List ℕ) (from to r : ℕ) : Type 0 where
  pub is : r ≡ weight (entry_of (span w from to))
  pub small : r < 68719476736

pub record KeysAscend (w : List ℕ) (from to : ℕ) (r : Bool) : Type 0 where
  pub is : r ≡ keys_ascend (as_set (entry_of (span w from to)))

-- the ceilings
pub record Few (t : Table) : Type 0 where
  pub names : t.names ≤ most_names
  pub entries : t.entries ≤ most_entries
  pub pairs : t.pairs ≤ most_pairs
  pub marks : t.marks ≤ most_marks
  pub roots : t.roots ≤ most_roots

-- one row more of section s
abbrev pub count_row : Table → ℕ → Table
count_row t s =
    if (eqb s 0) (λ _. t)
    (λ _. if (eqb s 1) (λ _. record { names = t.names + 1; entries = t.entries; pairs = t.pairs; marks = t.marks; roots = t.roots })
    (λ _. if (eqb s 2) (λ _. record { names = t.names; entries = t.entries + 1; pairs = t.pairs; marks = t.marks; roots = t.roots })
    (λ _. if (eqb s 3) (λ _. record { names = t.names; entries = t.entries; pairs = t.pairs + 1; marks = t.marks; roots = t.roots })
    (λ _. if (eqb s 4) (λ _. record { names = t.names; entries = t.entries; pairs = t.pairs; marks = t.marks + 1; roots = t.roots })
    (λ _. record { names = t.names; entries = t.entries; pairs = t.pairs; marks = t.marks; roots = t.roots + 1 })))))

pub record Counted (t : Table) (s : ℕ) (r : Table) : Type 0 where
  pub is : r ≡ count_row t s

-- ceilings passed, by the ceilings of the code
pub record NamesOver (names longest : ℕ) (t : Table) (s size : ℕ) (r : Bool) : Type 0 where
  pub is : r ≡ if (ltb names t.names) (λ _. true) (λ _. both (eqb s 1) (λ _. ltb longest size))
  pub few : r ≡ false → t.names ≤ names

pub record EntriesOver (entries most : ℕ) (t : Table) (ids : ℕ) (r : Bool) : Type 0 where
  pub is : r ≡ if (ltb entries t.entries) (λ _. true) (λ _. ltb most ids)
  pub few : r ≡ false → t.entries ≤ entries
  pub few_ids : r ≡ false → ids ≤ most

pub record RestOver (pairs marks roots : ℕ) (t : Table) (r : Bool) : Type 0 where
  pub is : r ≡ if (ltb pairs t.pairs) (λ _. true) (λ _. if (ltb marks t.marks) (λ _. true) (λ _. ltb roots t.roots))
  pub few_pairs : r ≡ false → t.pairs ≤ pairs
  pub few_marks : r ≡ false → t.marks ≤ marks
  pub few_roots : r ≡ false → t.roots ≤ roots

-- a ceiling is passed: rules' `over` on counts
abbrev pub over_by : Table → ℕ → ℕ → ℕ → Bool
over_by t ids s size =
    if (ltb most_names t.names) (λ _. true)
    (λ _. if (both (eqb s 1) (λ _. ltb longest_name size)) (λ _. true)
    (λ _. if (ltb most_entries t.entries) (λ _. true)
    (λ _. if (ltb most_ids ids) (λ _. true)
    (λ _. if (ltb most_pairs t.pairs) (λ _. true)
    (λ _. if (ltb most_marks t.marks) (λ _. true)
    (λ _. ltb most_roots t.roots))))))

pub record Over (t : Table) (ids s size : ℕ) (r : Bool) : Type 0 where
  pub is : r ≡ over_by t ids s size
  pub few : r ≡ false → Few t
  pub few_ids : r ≡ false → ids ≤ most_ids

pub record InOrder (stage s : ℕ) (r : Bool) : Type 0 where
  pub is : r ≡ in_order stage s

-- the new name comes after the last one
abbrev pub name_after : Progress → List ℕ → ℕ → Bool
name_after p w to =
    if (eqb p.table.names 0) (λ _. true)
    (λ _. before (span w (begin_at w p.table.names + 1) p.top) (span w (p.top + 1) to))

pub record NameAscends (p : Progress) (w : List ℕ) (to : ℕ) (r : Bool) : Type 0 where
  pub is : r ≡ name_after p w to

abbrev pub ascends_by : Progress → List ℕ → ℕ → ℕ → Bool
ascends_by p w to sec =
    if (eqb sec 1) (λ _. name_after p w to)
    (λ _. if (eqb sec 2) (λ _. keys_ascend (as_set (entry_of (span w p.top to)))) (λ _. true))

pub record Ascends (p : Progress) (w : List ℕ) (to sec : ℕ) (r : Bool) : Type 0 where
  pub is : r ≡ ascends_by p w to sec

pub record RowWeight (w : List ℕ) (from to s r : ℕ) : Type 0 where
  pub is : r ≡ row_weight s (span w from to)
  pub small : r < 68719476736

pub record Size (from to r : ℕ) : Type 0 where
  pub is : r ≡ (to - from) - 1

pub record StageAfter (s r : Section) : Type 0 where
  pub is : r ≡ section_after s

-- what was read keeps to the ceilings and to the order of sections
pub record Fine (p : Progress) : Type 0 where
  pub few : Few p.table
  pub few_ids : p.ids ≤ most_ids
  pub low : p.top ≤ table_length
  pub few_lines : p.lines ≤ most_lines
  pub unbegun : stage_of p ≡ 0 → p.lines ≡ 0
  pub begun : (stage_of p ≡ 0 → ⊥) → p.lines ≡ 1 + p.table.names + p.table.entries + p.table.pairs + p.table.marks + p.table.roots
  pub no_names : stage_of p ≤ 0 → p.table.names ≡ 0
  pub no_entries : stage_of p ≤ 1 → p.table.entries ≡ 0
  pub no_pairs : stage_of p ≤ 2 → p.table.pairs ≡ 0
  pub no_marks : stage_of p ≤ 3 → p.table.marks ≡ 0
  pub no_roots : stage_of p ≤ 4 → p.table.roots ≡ 0

abbrev pub advance_by : Progress → Section → ℕ → ℕ → Progress
advance_by p s ids to =
    record { stage = section_after s; lines = p.lines + 1; top = to; ids = p.ids + ids; table = count_row p.table (number_of_section s) }

pub record Advanced (p : Progress) (s : Section) (ids to : ℕ) (r : Progress) : Type 0 where
  pub is : r ≡ advance_by p s ids to

-- rules' `admit` on counts, of a row of section s
abbrev pub judge_by : Progress → List ℕ → ℕ → Section → std.Result Progress Refusal
judge_by p w to s =
    if (in_order (stage_of p) (number_of_section s))
    (λ _. if (over_by (count_row p.table (number_of_section s)) (p.ids + row_weight (number_of_section s) (span w p.top to)) (number_of_section s) ((to - p.top) - 1))
    (λ _. Err Ceiling)
    (λ _. if (ascends_by p w to (number_of_section s))
    (λ _. if (eqb (cell (span w p.top to) 0) frozen_entry) (λ _. Err Frozen) (λ _. Ok (advance_by p s (row_weight (number_of_section s) (span w p.top to)) to)))
    (λ _. Err Ascent)))
    (λ _. Err Form)

-- what is known of a row that is taken
pub record Passed (p : Progress) (to : ℕ) (q : Progress) : Type 0 where
  pub few : Few q.table
  pub few_ids : q.ids ≤ most_ids
  pub lines : q.lines ≡ p.lines + 1
  pub top : q.top ≡ to

abbrev pub Admitted : Progress → ℕ → std.Result Progress Refusal → Type 0
Admitted p to (Ok q) = Passed p to q
Admitted p to (Err k) = Unit {0}

pub record Judged (p : Progress) (w : List ℕ) (to : ℕ) (r : std.Result Progress Refusal) : Type 0 where
  pub section : Section
  pub of_kind : number_of_section section ≡ section_of (cell (span w p.top to) 0)
  pub is : r ≡ judge_by p w to section
  pub admitted : Admitted p to r

-- row i
abbrev pub row_at : List ℕ → ℕ → List ℕ
row_at w i = span w (begin_at w i) (begin_at w (i + 1))

-- rows without the number of their kind
abbrev pub bare : List (List ℕ) → List (List ℕ)
bare rs = map (drop 1) rs

abbrev pub table_at : ℕ → Table → List ℕ → rules.Sections
table_at b t w = record {
  budget = b;
  names = bare (run (row_at w) 1 t.names);
  entries = run (row_at w) (1 + t.names) t.entries;
  pairs = bare (run (row_at w) (1 + t.names + t.entries) t.pairs);
  marks = bare (run (row_at w) (1 + t.names + t.entries + t.pairs) t.marks);
  roots = bare (run (row_at w) (1 + t.names + t.entries + t.pairs + t.marks) t.roots);
}

-- the table that the rows are
unfoldable pub table_from : Table → List ℕ → rules.Sections
table_from t w = table_at (cell (row_at w 0) 1) t w

-- what the code answers, with the rows that it left
abbrev pub outcome : std.Result Table Fault → List ℕ → Result rules.Sections
outcome (Ok t) w = accepted (table_from t w)
outcome (Err e) w = refused (number e.refusal) e.line

-- how many rows there are
abbrev pub rows : Table → ℕ
rows t = 1 + t.names + t.entries + t.pairs + t.marks + t.roots

-- the rows stand one after the other, after their beginnings and within the slice
pub record Laid (t : Table) (w : List ℕ) : Type 0 where
  pub few : Few t
  pub order : (i : ℕ) → i < rows t → begin_at w i ≤ begin_at w (i + 1)
  pub behind : (i : ℕ) → i ≤ rows t → table_words ≤ begin_at w i
  pub within : (i : ℕ) → i ≤ rows t → begin_at w i ≤ table_length

abbrev pub LaidBy : std.Result Table Fault → List ℕ → Type 0
LaidBy (Ok t) w = Laid t w
LaidBy (Err e) w = Unit {0}

-- nothing read yet
abbrev pub untouched : Progress
untouched = record { stage = Budget; lines = 0; top = table_words; ids = 0; table = record { names = 0; entries = 0; pairs = 0; marks = 0; roots = 0 } }

pub record Unread (p : Progress) : Type 0 where
  pub is : p ≡ untouched

-- no row yet
pub record Begun (w : List ℕ) : Type 0 where
  pub room : table_length ≤ length w
  pub none_yet : begin_at w 0 ≡ table_words

-- no cell before the beginnings of rows changed
pub record Apart (w w' : List ℕ) : Type 0 where
  pub same_length : length w' ≡ length w
  pub kept : (k : ℕ) → k < rows_at → cell w' k ≡ cell w k

pub record Started (w w' : List ℕ) : Type 0 where
  pub begun : Begun w'
  pub apart : Apart w w'

-- the reading before the budget line has budget 0
abbrev pub budget_by : ℕ → List ℕ → ℕ
budget_by stage w = if (eqb stage 0) (λ _. 0) (λ _. cell (row_at w 0) 1)

-- what was read so far, as the rules have it
abbrev pub reading_of : Progress → List ℕ → Reading
reading_of p w = record { stage = stage_of p; ids = p.ids; table = table_at (budget_by (stage_of p) w) p.table w }

abbrev pub taken_of : std.Result Progress Refusal → List ℕ → Admission
taken_of (Ok p) w = admitted (reading_of p w)
taken_of (Err k) w = fault (number k)

-- the rows so far stand one after the other, after their beginnings, and end at top
pub record Layout (p : Progress) (w : List ℕ) : Type 0 where
  pub ends : begin_at w p.lines ≡ p.top
  pub order : (i : ℕ) → i < p.lines → begin_at w i ≤ begin_at w (i + 1)
  pub behind : (i : ℕ) → i ≤ p.lines → table_words ≤ begin_at w i
  pub within : (i : ℕ) → i ≤ p.lines → begin_at w i ≤ p.top

-- what a line asks
pub record Ready (text : List ℕ) (from to : ℕ) (w : List ℕ) (p : Progress) : Type 0 where
  pub fine : Fine p
  pub layout : Layout p w
  pub order : from ≤ to
  pub ended : to < length text
  pub short : length text ≤ most_text
  pub low : p.top ≤ table_words + from
  pub room : table_length ≤ length w

-- b has the kinds of a table's lines
pub record Kinds (b : List ℕ) : Type 0 where
  pub slots : Slots b 16
  pub are : kinds_in b 16 ≡ rules.kinds

-- q is p with one row more
pub record Went (p : Progress) (to : ℕ) (w : List ℕ) (q : Progress) : Type 0 where
  pub fine : Fine q
  pub layout : Layout q w
  pub low : q.top ≤ table_words + (to + 1)
  pub lines : q.lines ≡ p.lines + 1

abbrev pub Goes : Progress → ℕ → List ℕ → std.Result Progress Refusal → Type 0
Goes p to w (Ok q) = Went p to w q
Goes p to w (Err k) = Unit {0}

pub record Lined (text : List ℕ) (from to : ℕ) (p : Progress) (w w' : List ℕ) (r : std.Result Progress Refusal) : Type 0 where
  pub is : taken_of r w' ≡ step (reading_of p w) (span text from to)
  pub goes : Goes p to w' r
  pub apart : Apart w w'

pub record Lines (text w w' : List ℕ) (r : std.Result Table Fault) : Type 0 where
  pub is : outcome r w' ≡ lines 1 nothing (pieces line_feed text)
  pub laid : LaidBy r w'
  pub apart : Apart w w'

pub record VarKnown (w : List ℕ) (from to n : ℕ) (r : Bool) : Type 0 where
  pub is : r ≡ all_below n (kids (rules.var (part (span w from to) 2 (cell (span w from to) 1)) (part (span w from to) (3 + cell (span w from to) 1)
      (cell (span w from to) (2 + cell (span w from to) 1)))))

pub record SetKnown (w : List ℕ) (from to n : ℕ) (r : Bool) : Type 0 where
  pub is : r ≡ all_below n (rules.attr_kids (rules.attr_at (span w from to) 1))

pub record KeysKnown (w : List ℕ) (from to names : ℕ) (r : Bool) : Type 0 where
  pub is : r ≡ all_below names (rules.field_keys (rules.attr_at (span w from to) 1).fields ++ (rules.attr_at (span w from to) 1).optional)

pub record NamedKnown (w : List ℕ) (from to n names : ℕ) (r : Bool) : Type 0 where
  pub is : r ≡ both (all_below n (cell (span w from to) 2 ∷ [])) (λ _. all_below names (cell (span w from to) 1 ∷ []))

pub record EntryKnown (w : List ℕ) (from to n names : ℕ) (r : Bool) : Type 0 where
  pub is : r ≡ in_range n names (entry_of (span w from to))

-- whether all rows pass, as the rules say it
abbrev pub verdict : std.Result (Unit {0}) Fault → Result (Unit {0})
verdict (Ok u) = accepted tt
verdict (Err e) = refused (number e.refusal) e.line

pub record EntriesKnown (w : List ℕ) (t : Table) (r : std.Result (Unit {0}) Fault) : Type 0 where
  pub is : verdict r ≡ known (λ (row : List ℕ). in_range t.entries t.names (entry_of row)) (2 + t.names) (run (row_at w) (1 + t.names) t.entries)

pub record RootsKnown (w : List ℕ) (t : Table) (r : std.Result (Unit {0}) Fault) : Type 0 where
  pub is : verdict r ≡ known (λ (row : List ℕ). ltb (cell row 0) t.entries) (2 + t.names + t.entries + t.pairs + t.marks) (bare
      (run (row_at w) (1 + t.names + t.entries + t.pairs + t.marks) t.roots))

pub record Known (w : List ℕ) (t : Table) (r : std.Result (Unit {0}) Fault) : Type 0 where
  pub is : then (verdict r) (λ _. accepted (table_from t w)) ≡ in_table (table_from t w)

-- a text read: what is answered, with the rows left, is what the text says
pub record Read (text w : List ℕ) (r : std.Result Table Fault) : Type 0 where
  pub is : outcome r w ≡ sections_of text
  pub laid : LaidBy r w

-- and what stood before the beginnings of rows stands there still
pub record ReadInto (text w w' : List ℕ) (r : std.Result Table Fault) : Type 0 where
  pub read : Read text w' r
  pub apart : Apart w w'
