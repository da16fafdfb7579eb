-- What holds of a table that is accepted: its rows are as their sections ask, it is within the ceilings, the keys of its entries ascend, and
-- their ids and keys are in range. Assumes nothing.
use mathlib.Core.Path.{◌≡◌, refl, sym, ap, ◌∙◌, subst}
use mathlib.Core.Bool.{Bool, true, false}
use Prim.Native.Nat.{ℕ, zero, suc, ◌+◌, ◌≤◌, ◌<◌}
use native.Mathlib.Omega.{arith}
use native.Mathlib.Nat.{not-suc-le-zero}
use mathlib.Core.List.{List, [], ◌∷◌, ◌++◌, map}
use lib.ListN.{length, drop, get_or}
use lib.Dec.{eqb, ltb}
use borrow.Author.Tests.{ltb-false, eqb-true, eqb-false}
use Rattle.cells.specs.Part.{if, cell}
use Rattle.cells.proofs.Choices.{by_branch, by_test, true_false}
use Rattle.rules.specs.Plain.{both}
use Rattle.rules.specs.Ceilings.{most_text, most_names, longest_name, most_entries, most_ids}
use Rattle.rules.specs.Text.{line_feed, pieces, row_of}
use Rattle.rules.specs.Table.{Sections, entry_of, as_set, keys_ascend, weight, Table, Reading, nothing, in_order, add_row, row_weight, add, over, ascends, Admission}
use Rattle.rules.specs.Table.{admitted, fault, frozen_entry, admit, section_of, in_form, step, kinds, Result, accepted, refused, then, at_line, begun, lines, in_range}
use Rattle.rules.specs.Table.{known, entry_line, root_line, in_table, sections_of, root_of, from_sections, table_of}
use Rattle.laws.proofs.ReadLines.{row_words, ReadEntry, Gives, Long, Formal, Entered, line_entered}
use mathlib.Core.Option.{Option, none, some}

-- both tests hold
pub both_parts : (b : Bool) (y : Unit {0} → Bool) → both b y ≡ true → (b ≡ true) × (y tt ≡ true)
both_parts true y h = (refl, h)
both_parts false y h = true_false (sym h)

-- neither test holds
pub neither : (b : Bool) (y : Unit {0} → Bool) → if b (λ _. true) y ≡ false → (b ≡ false) × (y tt ≡ false)
neither true y h = true_false h
neither false y h = (refl, h)

-- what is accepted is so
abbrev pub Accepts : {A : Type 0} → (A → Type 0) → Result A → Type 0
Accepts P (accepted a) = P a
Accepts P (refused k l) = Unit {0}

accepts_more : {A : Type 0} (P Q : A → Type 0) (r : Result A) → ((a : A) → P a → Q a) → Accepts P r → Accepts Q r
accepts_more P Q (accepted a) f h = f a h
accepts_more P Q (refused k l) f h = tt

accepts_then : {A B : Type 0} (P : A → Type 0) (Q : B → Type 0) (r : Result A) (f : A → Result B)
    → Accepts P r → ((a : A) → P a → Accepts Q (f a)) → Accepts Q (then r f)
accepts_then P Q (accepted a) f h g = g a h
accepts_then P Q (refused k l) f h g = tt

-- of each of these
abbrev pub Every : (List ℕ → Type 0) → List (List ℕ) → Type 0
Every P [] = Unit {0}
Every P (row ∷ rows) = P row × Every P rows

module _ (P : List ℕ → Type 0) where
  every_last : (rows : List (List ℕ)) (new : List ℕ) → Every P rows → P new → Every P (rows ++ (new ∷ []))
  every_last [] new h p = (p, tt)
  every_last (row ∷ rows) new h p = (h.0, every_last rows new h.1 p)

  pub every_at : (rows : List (List ℕ)) (i : ℕ) → Every P rows → i < length rows → P (get_or rows i [])
  every_at [] i h lt = absurd (not-suc-le-zero lt)
  every_at (row ∷ rows) zero h lt = h.0
  every_at (row ∷ rows) (suc i) h lt = every_at rows i h.1 (omega arith)

-- each row passes the test
module _ (p : List ℕ → Bool) where
  abbrev pub Passes : List ℕ → Type 0
  Passes row = p row ≡ true

  abbrev pub Each : List (List ℕ) → Type 0
  Each rows = Every Passes rows

  pub each_at : (rows : List (List ℕ)) (i : ℕ) → Each rows → i < length rows → p (get_or rows i []) ≡ true
  each_at rows i h lt = every_at Passes rows i h lt

  known_each : (k : ℕ) (rows : List (List ℕ)) → Accepts (λ (_ : Unit {0}). Each rows) (known p k rows)
  known_each k [] = tt
  known_each k (row ∷ rows) =
      by_test (Accepts (λ (_ : Unit {0}). Each (row ∷ rows))) (p row) _ _
      (λ e. accepts_more (λ (_ : Unit {0}). Each rows) (λ (_ : Unit {0}). Each (row ∷ rows)) (known p (suc k) rows)
      (λ _ h. (e, h)) (known_each (suc k) rows))
      (λ e. tt)

-- the keys of the entry that a row says ascend
abbrev pub in_sequence : List ℕ → Bool
in_sequence row = keys_ascend (as_set (entry_of row))

-- the ids and keys of the entries that the rows say
abbrev pub weights : List (List ℕ) → ℕ
weights [] = 0
weights (row ∷ rows) = weight (entry_of row) + weights rows

weights_more : (rows : List (List ℕ)) (new : List ℕ) → weights (rows ++ (new ∷ [])) ≡ weights rows + weight (entry_of new)
weights_more [] new = omega arith
weights_more (row ∷ rows) new = let e = weights_more rows new in omega arith

-- what the ceilings and the order of keys say of a table
pub record Within (names entries : List (List ℕ)) : Type 0 where
  pub few_names : length names ≤ most_names
  pub few : length entries ≤ most_entries
  pub ids : weights entries ≤ most_ids
  pub ascend : Each in_sequence entries

-- a row of an entry, not frozen
pub record EntryRow (row : List ℕ) : Type 0 where
  pub is : row ≡ row_words (entry_of row)
  pub read : ReadEntry (entry_of row)

abbrev pub Signed : List ℕ → Type 0
Signed row = cell row 1 ≤ 1

-- the rows of a table are as their sections ask
pub record Formed (t : Sections) : Type 0 where
  pub entries : Every EntryRow t.entries
  pub pairs : Every (Long 2) t.pairs
  pub marks : Every (Long 1) t.marks
  pub roots : Every (Long 2) t.roots
  pub signs : Every Signed t.roots

formed_added : (t : Sections) (s : ℕ) (row : List ℕ) → Formed t → Formal s row → (cell row 0 ≡ frozen_entry → ⊥) → Formed (add_row t s row)
formed_added t s row h f n =
    by_test Formed (eqb s 0) _ _ (λ _. record { entries = h.entries; pairs = h.pairs; marks = h.marks; roots = h.roots; signs = h.signs })
    (λ n₀. by_test Formed (eqb s 1) _ _ (λ _. record { entries = h.entries; pairs = h.pairs; marks = h.marks; roots = h.roots; signs = h.signs })
    (λ n₁. by_test Formed (eqb s 2) _ _
    (λ e. let l = f.entry (eqb-true s 2 e) in
    record { entries = every_last EntryRow t.entries row h.entries (record { is = l.is; read = l.read n }); pairs = h.pairs; marks = h.marks; roots = h.roots; signs = h.signs })
    (λ n₂. by_test Formed (eqb s 3) _ _
    (λ e. record { entries = h.entries; pairs = every_last (Long 2) t.pairs (drop 1 row) h.pairs (f.pair (eqb-true s 3 e)); marks = h.marks; roots = h.roots; signs = h.signs })
    (λ n₃. by_test Formed (eqb s 4) _ _
    (λ e. record { entries = h.entries; pairs = h.pairs; marks = every_last (Long 1) t.marks (drop 1 row) h.marks (f.mark (eqb-true s 4 e)); roots = h.roots; signs = h.signs })
    (λ n₄. let last : 5 ≤ s = omega (arith, eqb-false s 0 n₀, eqb-false s 1 n₁, eqb-false s 2 n₂, eqb-false s 3 n₃, eqb-false s 4 n₄) in
    record {
      entries = h.entries;
      pairs = h.pairs;
      marks = h.marks;
      roots = every_last (Long 2) t.roots (drop 1 row) h.roots (f.root last);
      signs = every_last Signed t.roots (drop 1 row) h.signs (f.sign last);
    })))))

-- of a table that was read so far
record Kept (t : Sections) : Type 0 where
  within : Within t.names t.entries
  formed : Formed t

-- and its ids are counted
record Good (r : Reading) : Type 0 where
  kept : Kept r.table
  counted : r.ids ≡ weights r.table.entries

-- a row of another section leaves the entries
abbrev SameEntries : Sections → Sections → Type 0
SameEntries t u = u.entries ≡ t.entries

same_entries : (t : Sections) (s : ℕ) (row : List ℕ) → eqb s 2 ≡ false → SameEntries t (add_row t s row)
same_entries t s row e =
    by_branch (SameEntries t) (eqb s 0) _ _ refl
    (by_branch (SameEntries t) (eqb s 1) _ _ refl
    (by_test (SameEntries t) (eqb s 2) _ _ (λ h. true_false (sym h ∙ e))
    (λ _. by_branch (SameEntries t) (eqb s 3) _ _ refl (by_branch (SameEntries t) (eqb s 4) _ _ refl refl))))

counted_turn : (b : Bool) (t : Sections) (ids s : ℕ) (row : List ℕ) → eqb s 2 ≡ b → ids ≡ weights t.entries
    → ids + row_weight s row ≡ weights (add_row t s row).entries
counted_turn true t ids s row e h =
    let z : ids + weight (entry_of row) ≡ weights (t.entries ++ (row ∷ [])) = omega (arith, weights_more t.entries row) in
    subst (λ (k : ℕ). ids + row_weight k row ≡ weights (add_row t k row).entries) (sym (eqb-true s 2 e)) z
counted_turn false t ids s row e h =
    let z : row_weight s row ≡ 0 = ap (λ (b : Bool). if b (λ _. weight (entry_of row)) (λ _. 0)) e in
    let y = ap weights (same_entries t s row e) in omega arith

ascend_turn : (b : Bool) (t : Sections) (s : ℕ) (row : List ℕ) → eqb s 2 ≡ b → Each in_sequence t.entries → ascends t s row ≡ true
    → Each in_sequence (add_row t s row).entries
ascend_turn true t s row e h a =
    subst (λ (k : ℕ). Each in_sequence (add_row t k row).entries) (sym (eqb-true s 2 e))
    (every_last (Passes in_sequence) t.entries row h (subst (λ (k : ℕ). ascends t k row ≡ true) (eqb-true s 2 e) a))
ascend_turn false t s row e h a = subst (Each in_sequence) (sym (same_entries t s row e)) h

-- what is read stays good with a row that passes no ceiling and ascends
good_added : (r : Reading) (s : ℕ) (row : List ℕ) → Good r → over (add r s row) s row ≡ false
    → ascends r.table s row ≡ true → Formal s row → (cell row 0 ≡ frozen_entry → ⊥) → Good (add r s row)
good_added r s row g o a f z =
    let c = counted_turn (eqb s 2) r.table r.ids s row refl g.counted in
    let n = neither (ltb most_names (length (add_row r.table s row).names)) _ o in
    let l = neither (both (eqb s 1) (λ _. ltb longest_name (length (drop 1 row)))) _ n.1 in
    let e = neither (ltb most_entries (length (add_row r.table s row).entries)) _ l.1 in
    let i = neither (ltb most_ids (r.ids + row_weight s row)) _ e.1 in
    let m = ltb-false most_ids (r.ids + row_weight s row) i.0 in
    record {
      kept = record {
        within = record {
          few_names = ltb-false most_names (length (add_row r.table s row).names) n.0;
          few = ltb-false most_entries (length (add_row r.table s row).entries) e.0;
          ids = subst (λ (k : ℕ). k ≤ most_ids) c m;
          ascend = ascend_turn (eqb s 2) r.table s row refl g.kept.within.ascend a;
        };
        formed = formed_added r.table s row g.kept.formed f z;
      };
      counted = c;
    }

-- what is taken is good
abbrev Took : Admission → Type 0
Took (admitted r) = Good r
Took (fault k) = Unit {0}

admit_good : (r : Reading) (s : ℕ) (row : List ℕ) → Good r → Formal s row → Took (admit r s row)
admit_good r s row g f =
    by_branch Took (in_order r.stage s) _ _
    (by_test Took (over (add r s row) s row) _ _ (λ o. tt)
    (λ o. by_test Took (ascends r.table s row) _ _
    (λ a. by_test Took (eqb (cell row 0) frozen_entry) _ _ (λ _. tt) (λ z. good_added r s row g o a f (eqb-false (cell row 0) frozen_entry z)))
    (λ a. tt)))
    tt

form_good : (r : Reading) (m : Option (List ℕ)) → Good r → Gives Entered m → Took (in_form r m)
form_good r none g f = tt
form_good r (some row) g f = admit_good r (section_of (cell row 0)) row g f

at_good : (k : ℕ) (t : Admission) → Took t → Accepts Good (at_line k t)
at_good k (admitted r) h = h
at_good k (fault n) h = tt

begun_kept : (r : Reading) (k : ℕ) → Good r → Accepts Kept (begun r k)
begun_kept r k g = by_branch (Accepts Kept) (eqb r.stage 0) _ _ tt g.kept

step_good : (k : ℕ) (r : Reading) (l : List ℕ) → Good r → Accepts Good (at_line k (step r l))
unfolding step
step_good k r l g = at_good k (in_form r (row_of kinds l)) (form_good r (row_of kinds l) g (line_entered l))

lines_kept : (k : ℕ) (r : Reading) (ls : List (List ℕ)) → Good r → Accepts Kept (lines k r ls)
lines_kept k r [] g = begun_kept r k g
lines_kept k r ([] ∷ []) g = begun_kept r k g
lines_kept k r ((b ∷ l) ∷ []) g = tt
lines_kept k r (l ∷ m ∷ ls) g =
    accepts_then Good Kept (at_line k (step r l)) (λ q. lines (suc k) q (m ∷ ls)) (step_good k r l g) (λ q h. lines_kept (suc k) q (m ∷ ls) h)

nothing_good : Good nothing
nothing_good =
    record {
      kept = record {
        within = record { few_names = omega arith; few = omega arith; ids = omega arith; ascend = tt };
        formed = record { entries = tt; pairs = tt; marks = tt; roots = tt; signs = tt };
      };
      counted = refl;
    }

-- the ids, keys and names of the entry that a row says are those of the table
abbrev pub range_in : List (List ℕ) → List (List ℕ) → List ℕ → Bool
range_in names entries row = in_range (length entries) (length names) (entry_of row)

-- the root that a row says is an entry of the table
abbrev pub root_in : List (List ℕ) → List ℕ → Bool
root_in entries row = ltb (cell row 0) (length entries)

-- a table that is accepted, by its names, its entries and the rows of its roots
pub record Whole (names entries roots : List (List ℕ)) : Type 0 where
  pub within : Within names entries
  pub range : Each (range_in names entries) entries
  pub rooted : Each (root_in entries) roots

pub record WholeS (s : Sections) : Type 0 where
  pub is : Whole s.names s.entries s.roots
  pub formed : Formed s

table_whole : (t : Sections) → Kept t → Accepts WholeS (in_table t)
unfolding in_table
table_whole t w =
    accepts_then (λ (_ : Unit {0}). Each (range_in t.names t.entries) t.entries) WholeS (known (range_in t.names t.entries) (entry_line t) t.entries) _
    (known_each (range_in t.names t.entries) (entry_line t) t.entries)
    (λ _ h. accepts_then (λ (_ : Unit {0}). Each (root_in t.entries) t.roots) WholeS (known (root_in t.entries) (root_line t) t.roots) _
    (known_each (root_in t.entries) (root_line t) t.roots)
    (λ _ k. record { is = record { within = w.within; range = h; rooted = k }; formed = w.formed }))

pub sections_whole : (text : List ℕ) → Accepts WholeS (sections_of text)
unfolding sections_of
sections_whole text =
    by_branch (Accepts WholeS) (ltb most_text (length text)) _ _ tt
    (accepts_then Kept WholeS (lines 1 nothing (pieces line_feed text)) in_table
    (lines_kept 1 nothing (pieces line_feed text) nothing_good) table_whole)

pub record WholeTable (t : Table) : Type 0 where
  pub rows : List (List ℕ)
  pub typed : t.roots ≡ map root_of rows
  pub entries : Every EntryRow t.entries
  pub signs : Every Signed rows
  pub is : Whole t.names t.entries rows

-- what a text says is whole, where it is accepted
pub whole : (text : List ℕ) → Accepts WholeTable (table_of text)
unfolding table_of
whole text =
    accepts_then WholeS WholeTable (sections_of text) (λ s. accepted (from_sections s)) (sections_whole text)
    (λ s h. record { rows = s.roots; typed = refl; entries = h.formed.entries; signs = h.formed.signs; is = h.is })
