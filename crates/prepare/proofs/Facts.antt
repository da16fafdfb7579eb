-- How the code prepares a table: first rows, marks, the number of `__functor`, the budget, and what a first pass is given.
-- Assumes nothing.
use mathlib.Core.Path.{◌≡◌, refl, sym, ap, ap₂, ◌∙◌, subst}
use mathlib.Core.Bool.{Bool, true, false, not, ◌&&◌}
use Rattle.std.specs.List.{list_all, range_with_len}
use mathlib.Core.Logic.{⊎_elim}
use Prim.Native.Nat.{ℕ, zero, suc, ◌+◌, ◌-◌, ◌≤◌, ◌<◌}
use native.Mathlib.Omega.{arith}
use native.Mathlib.Nat.{eq-or-lt_of_le}
use native.Mathlib.Numerals.{add-one}
use mathlib.Core.List.{List, [], ◌∷◌, map}
use mathlib.Core.Option
use mathlib.Core.Option.{some}
use lib.ListN.{length, get_or, drop, set, length-set, length-drop, get_or-eq_default}
use lib.Seq.{get_or-set_same, get_or-set_other}
use lib.Dec.{eqb, ltb}
use borrow.Author.Tests.{ne_eqb, ltb-true, ltb-false, lt-ltb, le-ltb, eqb-true, eqb-false}
use Rattle.cells.specs.Part.{run, cell, part, if, eq_list}
use Rattle.cells.specs.Sum.{Sum}
use Rattle.cells.proofs.Parts.{run_at, run_length, run_next, run_none, run_whole, run_get_d, run_ext, eq_list_longer}
use Rattle.cells.proofs.Choices.{by_branch, by_test, if_self, if_same}
use Rattle.layout.specs.Layout.{marks_at, preserved_at, rows_at, table_words, table_length}
use Rattle.rules.specs.Plain.{find, any}
use Rattle.rules.specs.Ceilings.{most_names, most_entries, most_pairs, most_marks, most_roots}
use Rattle.rules.specs.Table.{Pair, Root, pair_of, root_of, from_sections, rep_in, join_pairs, upward, representatives, accepted, table_of}
use Rattle.rules.specs.Table as rules
use Rattle.rules.specs.Canonicalizer.{reader_of, functor_number, first_pass}
use Rattle.laws.proofs.Joining.{representative_below}
use Rattle.laws.proofs.Accepting.{accepted_tabled, accepted_root}
use Rattle.laws.proofs.ReadLines.{Long}
use Rattle.laws.proofs.Admitting.{Every}
use Rattle.text.specs.Reads.{span}
use Rattle.text.proofs.Spans.{span_length}
use Rattle.table.specs.declared.Table.{Table}
use Rattle.std.specs.Prelude.{Ok}
use Rattle.table.specs.Rows.{Few, begin_at, row_at, table_from, rows, Read}
use Rattle.storage.specs.declared.given.Canon.{Canon}
use Rattle.storage.specs.Passes.{Reps, Knows}
use Rattle.storage.specs.Equivs.{pair_at, pairs_in, Behind, Represents}
use Rattle.storage.proofs.Alike.{Alike}
use Rattle.prepare.specs.declared.Prepared.{Prepared}
use Rattle.prepare.specs.Prepares.{Number, FirstEntry, FirstPair, FirstMark, FirstRoot, mark, mark_all, marks_in, root_at, roots_in, SetsMark, SetsMarks}
use Rattle.prepare.specs.Prepares.{functor_name, IsFunctor, Functor, Budget, Prepares}
use Rattle.prepare.proofs.Prepares.{read_kept, same_table, rows_formed, many, reads_table}

-- the first rows
module _ {t : Table} where
  pub first_entry_is : {a r : ℕ} → Number t.names a → Sum (rows_at + 1) a r → FirstEntry t r
  first_entry_is n s = record {
    is = λ f.
        let x : t.names ≤ most_names = f.names in
        let a = n.is (omega arith) in let r = s.is (omega arith) in omega arith;
  }

  pub first_pair_is : {a b r : ℕ} → FirstEntry t a → Number t.entries b → Sum a b r → FirstPair t r
  first_pair_is p n s = record {
    is = λ f.
        let x : t.names ≤ most_names = f.names in let y : t.entries ≤ most_entries = f.entries in
        let a = p.is f in let b = n.is (omega arith) in let r = s.is (omega arith) in omega arith;
  }

  pub first_mark_is : {a b r : ℕ} → FirstPair t a → Number t.pairs b → Sum a b r → FirstMark t r
  first_mark_is p n s = record {
    is = λ f.
        let x : t.names ≤ most_names = f.names in let y : t.entries ≤ most_entries = f.entries in let z : t.pairs ≤ most_pairs = f.pairs in
        let a = p.is f in let b = n.is (omega arith) in let r = s.is (omega arith) in omega arith;
  }

  pub first_root_is : {a b r : ℕ} → FirstMark t a → Number t.marks b → Sum a b r → FirstRoot t r
  first_root_is p n s = record {
    is = λ f.
        let x : t.names ≤ most_names = f.names in let y : t.entries ≤ most_entries = f.entries in let z : t.pairs ≤ most_pairs = f.pairs in
        let u : t.marks ≤ most_marks = f.marks in
        let a = p.is f in let b = n.is (omega arith) in let r = s.is (omega arith) in omega arith;
  }

-- a mark, by its test
marked_by : (entries : ℕ) (table : List ℕ) (id : ℕ) (b : Bool) → ltb id entries ≡ b
    → mark entries table id ≡ if b (λ _. set table (marks_at + id) 1) (λ _. table)
marked_by entries table id b e = ap (λ (x : Bool). if x (λ _. set table (marks_at + id) 1) (λ _. table)) e

module _ {table : List ℕ} {entries id : ℕ} where
  pub mark_in : {table' : List ℕ} {p : ℕ} → id < entries → p ≡ marks_at + id → table' ≡ set table p 1
      → SetsMark table entries id table'
  mark_in lt e h =
      record { is = h ∙ ap (λ (k : ℕ). set table k 1) e ∙ sym (marked_by entries table id true (lt-ltb id entries lt)) }

  pub mark_out : entries ≤ id → SetsMark table entries id table
  mark_out le = record { is = sym (marked_by entries table id false (le-ltb id entries le)) }

-- what marks leave of the slice
mark_length : (entries : ℕ) (table : List ℕ) (m : ℕ) → length (mark entries table m) ≡ length table
mark_length entries table m =
    by_branch (λ (l : List ℕ). length l ≡ length table) (ltb m entries) _ _ (length-set table (marks_at + m) 1) refl

mark_other : (entries : ℕ) (table : List ℕ) (m k : ℕ) → (m < entries → k ≡ marks_at + m → ⊥)
    → cell (mark entries table m) k ≡ cell table k
mark_other entries table m k h =
    by_test (λ (l : List ℕ). cell l k ≡ cell table k) (ltb m entries) _ _
    (λ e. get_or-set_other table (marks_at + m) k 1 0 (h (ltb-true m entries e))) (λ _. refl)

marks_other : (entries : ℕ) (ids table : List ℕ) (k : ℕ) → ((m : ℕ) → m < entries → k ≡ marks_at + m → ⊥)
    → cell (mark_all entries table ids) k ≡ cell table k
marks_other entries [] table k h = refl
marks_other entries (m ∷ ids) table k h = marks_other entries ids (mark entries table m) k h ∙ mark_other entries table m k (h m)

-- the id of the mark whose row begins where place i tells
abbrev id_at : List ℕ → ℕ → ℕ
id_at table i = cell table (cell table i + 1)

-- marks set one after another: what is left to set gives the same as all of them, and the rows stay
pub record Marks (table₀ : List ℕ) (first entries n : ℕ) (table : List ℕ) (i : ℕ) : Type 0 where
  pub rows : Alike rows_at table₀ table
  pub is : mark_all entries table (marks_in table₀ (first + i) (n - i)) ≡ mark_all entries table₀ (marks_in table₀ first n)

pub record Marking (table₀ : List ℕ) (first entries n : ℕ) (table : List ℕ) (i : ℕ) : Type 0 where
  pub is : entries ≤ most_entries → Behind table₀ rows_at first n → Marks table₀ first entries n table i

module _ {table₀ : List ℕ} {first entries n : ℕ} where
  pub marking_start : Marking table₀ first entries n table₀ 0
  marking_start = record {
    is = λ few b. record { rows = record { is = λ k le. refl }; is = ap (mark_all entries table₀) (run_whole (id_at table₀) first n) };
  }

  pub marking_more : {table table' : List ℕ} {i p row q id : ℕ} → Marking table₀ first entries n table i → i < n
      → p ≡ first + i → row ≡ cell table p → q ≡ row + 1 → id ≡ cell table q → SetsMark table entries id table'
      → Marking table₀ first entries n table' (i + 1)
  marking_more {table} {table'} {i} {p} {row} {q} {id} inv lt here at place word s = record {
    is = λ few b.
        let m = inv.is few b in
        let begin : row ≡ cell table₀ (first + i) = at ∙ ap (cell table) here ∙ m.rows.is (first + i) (omega (arith, b.places)) in
        let same : id ≡ id_at table₀ (first + i) =
        word ∙ ap (cell table) (place ∙ ap (λ (k : ℕ). k + 1) begin) ∙ m.rows.is (cell table₀ (first + i) + 1) (omega (arith, b.rows i lt)) in
        record {
          rows = record {
            is = λ k le. ap (λ (l : List ℕ). cell l k) s.is ∙ mark_other entries table id k (λ small z. omega arith) ∙ m.rows.is k le;
          };
          is = ap (λ (l : List ℕ). mark_all entries l (marks_in table₀ (first + (i + 1)) (n - (i + 1)))) (s.is ∙ ap (mark entries table) same)
              ∙ ap (mark_all entries table) (sym (run_next (id_at table₀) first n i lt))
              ∙ m.is;
        };
  }

  pub marking_done : {table : List ℕ} {i : ℕ} {t : Table} → FirstMark t first → Number t.entries entries → Number t.marks n
      → Marking table₀ first entries n table i → n ≤ i → SetsMarks table₀ t table
  marking_done {table} {i} {t} f e m inv le = record {
    is = λ few behind.
        let y : t.entries ≤ most_entries = few.entries in let u : t.marks ≤ most_marks = few.marks in
        let a = f.is few in let b = e.is (omega arith) in let d = m.is (omega arith) in
        let z = inv.is (omega arith) (subst (λ (k : ℕ). Behind table₀ rows_at first k) (sym d) (subst (λ (k : ℕ). Behind table₀ rows_at k t.marks) (sym a) behind)) in
        ap (mark_all entries table) (sym (run_none (id_at table₀) first n i le))
        ∙ z.is
        ∙ (λ j. mark_all (b j) table₀ (marks_in table₀ (a j) (d j)));
  }

-- the words of a row after the first
pub drop_run : {A : Type 0} (f : ℕ → A) (a n : ℕ) → drop 1 (run f a n) ≡ run f (a + 1) (n - 1)
drop_run f a zero = refl
drop_run f a (suc n) = run_at f (suc a) (a + 1) n (suc n - 1) (sym (add-one a)) (omega arith)

pub and_if : (a b : Bool) → (a && b) ≡ if a (λ _. b) (λ _. false)
and_if true b = refl
and_if false b = refl

-- cells of two lists compared one by one, from the i-th on
pub cells_from : (s : List ℕ) (a : ℕ) (w : List ℕ) (b n i : ℕ)
    → list_all (λ (k : ℕ). eqb (cell s (a + k)) (cell w (b + k))) (range_with_len i n) ≡ eq_list (part s (a + i) n) (part w (b + i) n)
cells_from s a w b zero i = refl
cells_from s a w b (suc n) i =
    ap (λ (r : Bool). eqb (cell s (a + i)) (cell w (b + i)) && r)
    (cells_from s a w b n (i + 1)
    ∙ ap₂ {C = Bool} (λ (j k : ℕ). eq_list (part s j n) (part w k n)) (let e : a + (i + 1) ≡ suc (a + i) = omega arith in e)
    (let e : b + (i + 1) ≡ suc (b + i) = omega arith in e))
    ∙ and_if (eqb (cell s (a + i)) (cell w (b + i))) (eq_list (part s (suc (a + i)) n) (part w (suc (b + i)) n))

-- the name in a row of ten words
name_words : (table : List ℕ) (a e d : ℕ) → Sum a 10 d → e ≡ d → a ≤ table_length → part table (a + 1) 9 ≡ drop 1 (span table a e)
name_words table a e d s h low =
    let z = s.is (omega arith) in
    run_at (cell table) (a + 1) (a + 1) 9 ((e - a) - 1) refl (omega arith) ∙ sym (drop_run (cell table) a (e - a))

module _ {table : List ℕ} {a : ℕ} where
  pub functor_longer : {e d : ℕ} → Sum a 10 d → (e ≡ d → ⊥) → IsFunctor table a e (eqb e d)
  functor_longer {e} {d} s n = record {
    is = λ low.
        let z = s.is (omega arith) in
        ne_eqb e d n ∙ sym (eq_list_longer (drop 1 (span table a e)) functor_name
        (λ (h : length (drop 1 (span table a e)) ≡ 9).
        let l = length-drop 1 (span table a e) in let m = span_length table a e in n (omega arith)));
  }

  pub spelled : {b e d : ℕ} {r : Bool} → Sum a 1 b → Sum a 10 d → e ≡ d
      → r ≡ list_all (λ (k : ℕ). eqb (cell table (b + k)) (cell functor_name k)) (range_with_len 0 9) → IsFunctor table a e r
  spelled {b} {e} {d} s t h r = record {
    is = λ low.
        let z = s.is (omega arith) in
        r
        ∙ cells_from table b functor_name 0 9 0
        ∙ ap (λ (j : ℕ). eq_list (part table j 9) functor_name) (let y : b + 0 ≡ a + 1 = omega arith in y)
        ∙ ap (λ (l : List ℕ). eq_list l functor_name) (name_words table a e d t h low);
  }

-- a row without its first word
abbrev bare_at : List ℕ → ℕ → List ℕ
bare_at table i = drop 1 (row_at table i)

-- the number of the first of these names that is `__functor`, counted from i; past all names where there is none
abbrev is_functor_name : List ℕ → Bool
is_functor_name name = eq_list name functor_name

abbrev number_from : ℕ → ℕ → List (List ℕ) → ℕ
number_from names i l = Option.get_or (find is_functor_name i l) names

-- names searched one after another: what is left to search says the same as all of them
pub record Seeking (table : List ℕ) (names i : ℕ) : Type 0 where
  pub is : ((k : ℕ) → k ≤ names → begin_at table k ≤ table_length)
      → number_from names i (run (bare_at table) (1 + i) (names - i)) ≡ functor_number (run (bare_at table) 1 names)

module _ {table : List ℕ} {names : ℕ} where
  pub seeking_start : Seeking table names 0
  seeking_start = record {
    is = λ _.
        ap (number_from names 0) (run_whole (bare_at table) 1 names)
        ∙ ap (Option.get_or (find is_functor_name 0 (run (bare_at table) 1 names))) (sym (run_length (bare_at table) 1 names));
  }

  module _ {i p q a e : ℕ} {r : Bool} (inv : Seeking table names i) (lt : i < names) (from : p ≡ rows_at + 1 + i) (at : a ≡ cell table p)
      (to : q ≡ rows_at + 2 + i) (end : e ≡ cell table q) (said : IsFunctor table a e r) where
    seek_next : ((k : ℕ) → k ≤ names → begin_at table k ≤ table_length)
        → Option.get_or (if r (λ _. some i) (λ _. find is_functor_name (suc i) (run (bare_at table) (1 + (i + 1)) (names - (i + 1))))) names
        ≡ functor_number (run (bare_at table) 1 names)
    seek_next within =
        let rest = run (bare_at table) (1 + (i + 1)) (names - (i + 1)) in
        let first : a ≡ begin_at table (1 + i) = at ∙ ap (cell table) (omega arith) in
        let last : e ≡ begin_at table (1 + i + 1) = end ∙ ap (cell table) (omega arith) in
        let low = within (1 + i) (omega arith) in
        let name : drop 1 (span table a e) ≡ bare_at table (1 + i) =
        ap₂ {C = List ℕ} (λ (x y : ℕ). drop 1 (span table x y)) first last in
        ap (λ (b : Bool). Option.get_or (if b (λ _. some i) (λ _. find is_functor_name (suc i) rest)) names)
        (said.is (omega arith) ∙ ap is_functor_name name)
        ∙ ap (number_from names i) (sym (run_next (bare_at table) 1 names i lt))
        ∙ inv.is within

  pub seeking_here : {i p q a e : ℕ} {r : Bool} → Seeking table names i → i < names → p ≡ rows_at + 1 + i → a ≡ cell table p
      → q ≡ rows_at + 2 + i → e ≡ cell table q → IsFunctor table a e r → r ≡ true → Functor table names i
  seeking_here {a = a} {e = e} inv lt from at to end said z =
      record { is = seek_next inv lt from at to end (subst (IsFunctor table a e) z said) }

  pub seeking_more : {i p q a e : ℕ} {r : Bool} → Seeking table names i → i < names → p ≡ rows_at + 1 + i → a ≡ cell table p
      → q ≡ rows_at + 2 + i → e ≡ cell table q → IsFunctor table a e r → r ≡ false → Seeking table names (i + 1)
  seeking_more {i} {a = a} {e = e} inv lt from at to end said z = record {
    is = λ within.
        ap (λ (k : ℕ). number_from names k (run (bare_at table) (1 + (i + 1)) (names - (i + 1)))) (add-one i)
        ∙ seek_next inv lt from at to end (subst (IsFunctor table a e) z said) within;
  }

  pub seeking_done : {i : ℕ} → Seeking table names i → names ≤ i → Functor table names names
  seeking_done {i} inv le = record {
    is = λ within. ap (number_from names i) (sym (run_none (bare_at table) 1 names i le)) ∙ inv.is within;
  }

-- the budget
module _ {table : List ℕ} {a e d : ℕ} (at : a ≡ cell table rows_at) (end : e ≡ cell table (rows_at + 1)) (s : Sum a 1 d) where
  pub budget_short : e ≤ d → Budget table 0
  budget_short le = record {
    is = λ low.
        let z = s.is (omega arith) in
        sym (get_or-eq_default (row_at table 0) 0 (let l = span_length table (begin_at table 0) (begin_at table 1) in omega arith));
  }

  pub budget_is : {p r : ℕ} → d < e → p ≡ a + 1 → r ≡ cell table p → Budget table r
  budget_is lt here word = record {
    is = λ low.
        let z = s.is (omega arith) in
        word ∙ ap (cell table) (omega arith)
        ∙ sym (run_get_d (cell table) (begin_at table 0) (begin_at table 1 - begin_at table 0) 1 0 (omega arith));
  }

-- whether the slice says that id is marked
abbrev says : List ℕ → ℕ → Bool
says table id = not (eqb (cell table (marks_at + id)) 0)

module _ (entries id : ℕ) (lt : id < entries) where
  said_turn : (b a : Bool) (table : List ℕ) (m : ℕ) → eqb m id ≡ b → marks_at + entries ≤ length table
      → if a (λ _. true) (λ _. says (mark entries table m) id) ≡ if (if b (λ _. true) (λ _. a)) (λ _. true) (λ _. says table id)
  said_turn true a table m e le =
      let one : cell (mark entries table id) (marks_at + id) ≡ 1 =
      ap (λ (l : List ℕ). cell l (marks_at + id)) (marked_by entries table id true (lt-ltb id entries lt))
      ∙ get_or-set_same table (marks_at + id) 1 0 (omega arith) in
      let here : cell (mark entries table m) (marks_at + id) ≡ 1 =
      ap (λ (k : ℕ). cell (mark entries table k) (marks_at + id)) (eqb-true m id e) ∙ one in
      ap (λ (k : ℕ). if a (λ _. true) (λ _. not (eqb k 0))) here ∙ if_same a true
  said_turn false a table m e le =
      let n = eqb-false m id e in
      ap (λ (k : ℕ). if a (λ _. true) (λ _. not (eqb k 0))) (mark_other entries table m (marks_at + id) (λ _ z. n (omega arith)))

  marks_said : (ids table : List ℕ) → marks_at + entries ≤ length table
      → says (mark_all entries table ids) id ≡ if (any (λ (m : ℕ). eqb m id) ids) (λ _. true) (λ _. says table id)
  marks_said [] table le = refl
  marks_said (m ∷ ids) table le =
      let l = mark_length entries table m in
      marks_said ids (mark entries table m) (omega arith) ∙ said_turn (eqb m id) (any (λ (x : ℕ). eqb x id) ids) table m refl le

-- what is made of each value of a run
pub map_run : {A B : Type 0} (f : A → B) (g : ℕ → A) (a n : ℕ) → map f (run g a n) ≡ run (λ (i : ℕ). f (g i)) a n
map_run f g a zero = refl
map_run {B = B} f g a (suc n) = ap (λ (l : List B). f (g a) ∷ l) (map_run f g (suc a) n)

bare_words : (table : List ℕ) (i n : ℕ) → Long n (bare_at table i) → bare_at table i ≡ part table (begin_at table i + 1) n
bare_words table i n h =
    let a = begin_at table i in let b = begin_at table (i + 1) in
    let e = drop_run (cell table) a (b - a) in
    let l : (b - a) - 1 ≡ n = sym (ap length e ∙ run_length (cell table) (a + 1) ((b - a) - 1)) ∙ h in
    e ∙ run_at (cell table) (a + 1) (a + 1) ((b - a) - 1) n refl l

bare_two : (table : List ℕ) (i : ℕ) → Long 2 (bare_at table i)
    → bare_at table i ≡ cell table (begin_at table i + 1) ∷ cell table (begin_at table i + 2) ∷ []
bare_two table i h =
    bare_words table i 2 h ∙ ap (λ (k : ℕ). cell table (begin_at table i + 1) ∷ cell table k ∷ []) (omega arith)

-- counted from c on
pub run_places : {A : Type 0} (f : ℕ → A) (c a b n : ℕ) → c + a ≡ b → run (λ (i : ℕ). f (c + i)) a n ≡ run f b n
run_places f c a b zero e = refl
run_places {A} f c a b (suc n) e = ap₂ {C = List A} ◌∷◌ (ap f e) (run_places f c (suc a) (suc b) n (omega arith))

all_run : (P : List ℕ → Type 0) (f : ℕ → List ℕ) (a n : ℕ) → Every P (run f a n) → (k : ℕ) → a ≤ k → k < a + n → P (f k)
all_run P f a zero h k p q = absurd (omega arith)
all_run P f a (suc n) h k p q =
    ⊎_elim (λ (z : a ≡ k). subst (λ (j : ℕ). P (f j)) z h.0)
    (λ (lt : a < k). all_run P f (suc a) n h.1 k (omega arith) (omega arith))
    (eq-or-lt_of_le p)

rep_turn : (b : Bool) (table : List ℕ) (n id : ℕ) → ltb id n ≡ b → rep_in (part table 0 n) id ≡ if b (λ _. cell table id) (λ _. id)
rep_turn true table n id e = run_get_d (cell table) 0 n id id (ltb-true id n e) ∙ ap (cell table) (omega arith)
rep_turn false table n id e =
    get_or-eq_default (part table 0 n) id (let l = run_length (cell table) 0 n in let f = ltb-false id n e in omega arith)

-- the pairs, the marks and the roots of a table that was read, as the code reads them, and that pairs and marks lie after the facts
module _ (text table : List ℕ) (t : Table) (T : rules.Table) (rd : Read text table (Ok t)) (e : table_of text ≡ accepted T) where
  table_is : T ≡ from_sections (table_from t table)
  table_is = same_table text table t T rd e

  abbrev first_pair : ℕ
  first_pair = rows_at + 1 + t.names + t.entries

  abbrev first_mark : ℕ
  first_mark = rows_at + 1 + t.names + t.entries + t.pairs

  pairs_are : T.pairs ≡ pairs_in table first_pair t.pairs
  unfolding table_from
  pairs_are =
      let first = 1 + t.names + t.entries in let n = t.pairs in
      let bare_rows = map_run (drop 1) (row_at table) first n in
      ap (λ (u : rules.Table). u.pairs) table_is
      ∙ ap (map pair_of) bare_rows
      ∙ map_run pair_of (bare_at table) first n
      ∙ run_ext (λ (i : ℕ). pair_of (bare_at table i)) _ first n
      (λ k p q. ap pair_of (bare_two table k (all_run (Long 2) (bare_at table) first n (subst (Every (Long 2)) bare_rows (rows_formed text table t T rd e).pairs) k p q)))
      ∙ run_places (pair_at table) rows_at first first_pair n (omega arith)

  marks_are : T.marks ≡ marks_in table first_mark t.marks
  unfolding table_from
  marks_are =
      let first = 1 + t.names + t.entries + t.pairs in let n = t.marks in
      let bare_rows = map_run (drop 1) (row_at table) first n in
      ap (λ (u : rules.Table). u.marks) table_is
      ∙ ap (map (λ (row : List ℕ). cell row 0)) bare_rows
      ∙ map_run (λ (row : List ℕ). cell row 0) (bare_at table) first n
      ∙ run_ext (λ (i : ℕ). cell (bare_at table i) 0) _ first n
      (λ k p q. ap (λ (row : List ℕ). cell row 0)
      (bare_words table k 1 (all_run (Long 1) (bare_at table) first n (subst (Every (Long 1)) bare_rows (rows_formed text table t T rd e).marks) k p q)))
      ∙ run_places (id_at table) rows_at first first_mark n (omega arith)

  abbrev first_root : ℕ
  first_root = rows_at + 1 + t.names + t.entries + t.pairs + t.marks

  pub roots_are : T.roots ≡ roots_in table first_root t.roots
  unfolding table_from
  roots_are =
      let first = 1 + t.names + t.entries + t.pairs + t.marks in let n = t.roots in
      let bare_rows = map_run (drop 1) (row_at table) first n in
      ap (λ (u : rules.Table). u.roots) table_is
      ∙ ap (map root_of) bare_rows
      ∙ map_run root_of (bare_at table) first n
      ∙ run_ext (λ (i : ℕ). root_of (bare_at table i)) _ first n
      (λ k p q. ap root_of (bare_two table k (all_run (Long 2) (bare_at table) first n (subst (Every (Long 2)) bare_rows (rows_formed text table t T rd e).roots) k p q)))
      ∙ run_places (root_at table) rows_at first first_root n (omega arith)

  row_behind : (k i : ℕ) → k ≡ rows_at + i → i ≤ rows t → table_words ≤ cell table k
  row_behind k i z le = omega (arith, ap (cell table) z, rd.laid.behind i le)

  pairs_behind : Behind table t.entries first_pair t.pairs
  pairs_behind =
      let f : t.entries ≤ most_entries = rd.laid.few.entries in
      record { places = omega arith; rows = λ i lt. omega (arith, row_behind (first_pair + i) (1 + t.names + t.entries + i) (omega arith) (omega arith)) }

  marks_behind : Behind table rows_at first_mark t.marks
  marks_behind = record {
    places = omega arith;
    rows = λ i lt. omega (arith, row_behind (first_mark + i) (1 + t.names + t.entries + t.pairs + i) (omega arith) (omega arith));
  }

-- a table that was read, and the slice with the facts that were made of it
module _ (text table₀ table₁ table₂ : List ℕ) (t : Table) (T : rules.Table) (c : Canon)
    (rd₀ : Read text table₀ (Ok t)) (e : table_of text ≡ accepted T) (count : c.count ≡ t.entries)
    (rep : Represents table₀ t.entries (rows_at + 1 + t.names + t.entries) t.pairs table₁)
    (same : length table₁ ≡ length table₀) (sets : SetsMarks table₁ t table₂)
    (long : table_length ≤ length table₀) (zeros : (k : ℕ) → k < rows_at → cell table₀ k ≡ 0) where
  few_entries : t.entries ≤ most_entries
  few_entries = rd₀.laid.few.entries

  rd₁ : Read text table₁ (Ok t)
  rd₁ = read_kept rd₀ (record { is = λ k le. rep.kept k (let f = few_entries in omega arith) })

  -- the ids that are marked
  abbrev ids : List ℕ
  ids = marks_in table₁ (rows_at + 1 + t.names + t.entries + t.pairs) t.marks

  set_all : table₂ ≡ mark_all t.entries table₁ ids
  set_all = sets.is rd₀.laid.few (marks_behind text table₁ t T rd₁ e)

  -- a cell that is no mark's
  beside : (k : ℕ) → ((m : ℕ) → m < t.entries → k ≡ marks_at + m → ⊥) → cell table₂ k ≡ cell table₁ k
  beside k h = ap (λ (l : List ℕ). cell l k) set_all ∙ marks_other t.entries ids table₁ k h

  prepared_read : Read text table₂ (Ok t)
  prepared_read = let f = few_entries in read_kept rd₁ (record { is = λ k le. beside k (λ m lt z. omega arith) })

  entries_many : length T.entries ≡ c.count
  entries_many = many text table₀ t T rd₀ e ∙ sym count

  reps_are : part table₂ 0 c.count ≡ representatives T
  unfolding representatives
  reps_are =
      let f = few_entries in
      run_ext (cell table₂) (cell table₁) 0 c.count (λ k p q. beside k (λ m lt z. omega arith))
      ∙ ap (part table₁ 0) count
      ∙ rep.is (omega arith) (pairs_behind text table₀ t T rd₀ e)
      ∙ ap₂ {C = List ℕ} (λ (n : ℕ) (ps : List Pair). join_pairs (upward 0 n) ps) (sym (entries_many ∙ count)) (sym (pairs_are text table₀ t T rd₀ e))

  reps_known : Reps table₂ c (first_pass T)
  unfolding first_pass
  reps_known = record {
    is = λ id. ap (λ (l : List ℕ). rep_in l id) (sym reps_are) ∙ rep_turn (ltb id c.count) table₂ c.count id refl;
    below = λ id lt.
        let m = entries_many in subst (λ (n : ℕ). rep_in (representatives T) id < n) m (representative_below T id (omega arith));
  }

  marks_known : (id : ℕ) → id < c.count → (first_pass T).marked id ≡ not (eqb (cell table₂ (marks_at + id)) 0)
  unfolding first_pass
  marks_known id lt =
      let f = few_entries in
      let none : says table₁ id ≡ false =
      ap (λ (k : ℕ). not (eqb k 0)) (rep.kept (marks_at + id) (omega arith) ∙ zeros (marks_at + id) (omega arith)) in
      ap (any (λ (m : ℕ). eqb m id)) (marks_are text table₁ t T rd₁ e)
      ∙ sym (if_self (any (λ (m : ℕ). eqb m id) ids))
      ∙ ap (λ (b : Bool). if (any (λ (m : ℕ). eqb m id) ids) (λ _. true) (λ _. b)) (sym none)
      ∙ sym (marks_said t.entries id (omega arith) ids table₁ (omega arith))
      ∙ ap (λ (l : List ℕ). says l id) (sym set_all)

  none_preserved : (v : ℕ) → v < c.count → cell table₂ (preserved_at + v) ≡ 0
  none_preserved v lt =
      let f = few_entries in
      beside (preserved_at + v) (λ m h z. omega arith) ∙ rep.kept (preserved_at + v) (omega arith) ∙ zeros (preserved_at + v) (omega arith)

  module _ (base : c.base ≡ rows_at + 1 + t.names) (spent : c.spent ≡ 0) (budget : c.budget ≡ cell (row_at table₂ 0) 1)
      (functor : c.functor ≡ functor_number (run (bare_at table₂) 1 t.names)) where
    here : T ≡ from_sections (table_from t table₂)
    here = table_is text table₂ t T prepared_read e

    budget_known : (first_pass T).budget ≡ c.budget
    unfolding first_pass table_from
    budget_known = ap (λ (u : rules.Table). u.budget) here ∙ sym budget

    functor_known : (first_pass T).functor ≡ c.functor
    unfolding first_pass table_from
    functor_known =
        ap functor_number (ap (λ (u : rules.Table). u.names) here ∙ map_run (drop 1) (row_at table₂) 1 t.names) ∙ sym functor

    pass_known : Knows table₂ c (first_pass T) (reader_of T)
    unfolding first_pass
    pass_known = record {
      count = entries_many;
      few = let f = few_entries in omega arith;
      reads = reads_table text table₂ t T prepared_read e c count base;
      reps = reps_known;
      marked = marks_known;
      preserved = λ id lt. sym (ap (λ (k : ℕ). not (eqb k 0)) (none_preserved id lt));
      budget = budget_known;
      spent = sym spent;
      functor = functor_known;
    }

-- roots that are read from a place on are entries
roots_known : (text table : List ℕ) (T : rules.Table) (first n : ℕ) {m : ℕ} → table_of text ≡ accepted T → T.roots ≡ roots_in table first n
    → length T.entries ≡ m → (i : ℕ) → i < n → cell table (cell table (first + i) + 1) < m
roots_known text table T first n e h c i lt =
    let l = ap length h ∙ run_length (root_at table) first n in
    let at : (get_or T.roots i (root_of [])).id ≡ cell table (cell table (first + i) + 1) =
    ap (λ (rs : List Root). (get_or rs i (root_of [])).id) h ∙ ap (λ (r : Root). r.id) (run_get_d (root_at table) first n i (root_of []) lt) in
    omega (arith, accepted_root text T e i (omega arith))

pub prepare_is : {table₀ table₁ table₂ : List ℕ} {t : Table} {g : Prepared} {pair pairs names : ℕ}
    → Number t.entries g.canon.count → FirstPair t pair → Number t.pairs pairs
    → Represents table₀ g.canon.count pair pairs table₁ → length table₁ ≡ length table₀ → SetsMarks table₁ t table₂
    → FirstEntry t g.canon.base → Budget table₂ g.canon.budget → Number t.names names → Functor table₂ names g.canon.functor
    → g.canon.spent ≡ 0 → FirstRoot t g.first → Number t.roots g.roots → Prepares table₀ t table₂ g
prepare_is {table₀} {table₁} {table₂} {t} {g} {pair} {pairs} {names} entries first paired rep same sets base budget named functor spent root rooted =
    record {
      is = λ text T rd e long zeros.
          let few : Few t = rd.laid.few in
          let f : t.names ≤ most_names = few.names in let h : t.entries ≤ most_entries = few.entries in
          let k : t.pairs ≤ most_pairs = few.pairs in
          let m : t.roots ≤ most_roots = few.roots in
          let count : g.canon.count ≡ t.entries = entries.is (omega arith) in
          let many-names : names ≡ t.names = named.is (omega arith) in
          let many-pairs : pairs ≡ t.pairs = paired.is (omega arith) in
          let reps₁ = subst (λ (x : ℕ). Represents table₀ x pair pairs table₁) count rep in
          let reps₂ = subst (λ (x : ℕ). Represents table₀ t.entries x pairs table₁) (first.is few) reps₁ in
          let reps₃ =
          subst (λ (x : ℕ). Represents table₀ t.entries (rows_at + 1 + t.names + t.entries) x table₁) many-pairs reps₂ in
          let read : Read text table₂ (Ok t) = prepared_read text table₀ table₁ table₂ t T g.canon rd e count reps₃ same sets long zeros in
          let many-roots : g.roots ≡ t.roots = rooted.is (omega arith) in
          let listed : T.roots ≡ roots_in table₂ g.first g.roots =
          roots_are text table₂ t T read e ∙ run_at _ _ g.first t.roots g.roots (sym (root.is few)) (sym many-roots) in
          let low : (i : ℕ) → i ≤ 1 + t.names → begin_at table₂ i ≤ table_length = λ i le. read.laid.within i (omega arith) in
          record {
            read = read;
            knows = pass_known text table₀ table₁ table₂ t T g.canon rd e count reps₃ same sets long zeros (base.is few) spent
                (budget.is (low 0 (omega arith)))
                (functor.is (λ i le. low i (omega arith)) ∙ ap (λ (n : ℕ). functor_number (run (bare_at table₂) 1 n)) many-names);
            tabled = accepted_tabled text T e;
            none = none_preserved text table₀ table₁ table₂ t T g.canon rd e count reps₃ same sets long zeros;
            base = base.is few;
            first = root.is few;
            roots = many-roots;
            rooted = listed;
            known = roots_known text table₂ T g.first g.roots e listed (many text table₀ t T rd e ∙ sym count);
          };
    }
