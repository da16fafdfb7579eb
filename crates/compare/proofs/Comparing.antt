-- Two tables compared row by row: what the loops keep, and that the rows say what the rules' `comparable` says. Assumes nothing.
use mathlib.Core.Path.{◌≡◌, refl, sym, ap, ap₂, ◌∙◌, subst}
use mathlib.Core.Bool.{Bool, true, false, ◌&&◌}
use Rattle.std.specs.Prelude.{min}
use Rattle.std.specs.List.{list_all, range_with_len}
use mathlib.Core.Logic.{⊎_elim}
use Prim.Native.Nat.{ℕ, zero, suc, ◌+◌, ◌-◌, ◌≤◌}
use native.Mathlib.Omega.{arith}
use native.Mathlib.Nat.{eq-zero-or-pos}
use mathlib.Core.List.{List, [], ◌∷◌, map}
use lib.ListN.{length, drop}
use lib.Dec.{eqb}
use borrow.Author.Tests.{eqb-true, eq-eqb, ne_eqb}
use Rattle.cells.specs.Part.{run, cell, part, if, eq_list}
use Rattle.cells.specs.Sum.{Sum}
use Rattle.cells.proofs.Parts.{run_at, run_length, eq_list_longer}
use Rattle.cells.proofs.Choices.{true_false, not_so, if_self}
use Rattle.layout.specs.Layout.{rows_at}
use Rattle.rules.specs.Plain.{both}
use Rattle.rules.specs.Ceilings.{most_names, most_entries, most_pairs, most_marks, most_roots}
use Rattle.rules.specs.Table.{pair_of, root_of, from_sections, accepted, table_of}
use Rattle.rules.specs.Table as rules
use Rattle.rules.specs.Calls.{same, same_pair, same_root, comparable}
use Rattle.laws.proofs.Admitting.{both_parts, Every}
use Rattle.laws.proofs.ReadLines.{Long}
use Rattle.text.specs.Reads.{span}
use Rattle.text.proofs.Spans.{span_none, span_length}
use Rattle.table.specs.declared.Table.{Table}
use Rattle.std.specs.Prelude.{Ok}
use Rattle.table.specs.Rows.{Few, row_at, Laid, table_from, Read}
use Rattle.prepare.specs.Prepares.{Number, FirstPair, FirstMark, FirstRoot, Budget}
use Rattle.prepare.proofs.Prepares.{same_table, rows_formed, many}
use Rattle.prepare.proofs.Facts.{drop_run, and_if, cells_from}
use Rattle.compare.specs.Compares.{SameCells, SameSpans, words_from, SameRow, SameWords, SameRows, SameCounts, Comparable}

pub cells_same : {s : List ℕ} {a : ℕ} {w : List ℕ} {b n : ℕ} {r : Bool}
    → r ≡ list_all (λ (k : ℕ). eqb (cell s (a + k)) (cell w (b + k))) (range_with_len 0 n) → SameCells s a w b n r
cells_same {s} {a} {w} {b} {n} e = record {
  is =
      e
      ∙ cells_from s a w b n 0
      ∙ ap₂ {C = Bool} (λ (j k : ℕ). eq_list (part s j n) (part w k n)) (let z : a + 0 ≡ a = omega arith in z) (let z : b + 0 ≡ b = omega arith in z);
}

-- spans of two slices
module _ {s : List ℕ} {a e : ℕ} {w : List ℕ} {b f n m : ℕ} (here : n ≡ e - a) (there : m ≡ f - b) where
  pub spans_longer : (n ≡ m → ⊥) → SameSpans s a e w b f (eqb n m)
  spans_longer d = record {
    is = ne_eqb n m d
        ∙ sym (eq_list_longer (span s a e) (span w b f)
        (λ h. d (here ∙ sym (span_length s a e) ∙ h ∙ span_length w b f ∙ sym there)));
  }

-- the row whose beginning is told at p
module _ {old table : List ℕ} {p a b e f : ℕ} {r : Bool} where
  pub row_same : {x y : ℕ} → a ≡ cell old p → x ≡ p + 1 → e ≡ cell old x → b ≡ cell table p → y ≡ p + 1 → f ≡ cell table y
      → SameSpans old a e table b f r → SameRow old table p r
  row_same from x to from' y to' h = record {
    is = h.is
        ∙ ap₂ eq_list (ap₂ {C = List ℕ} (span old) from (to ∙ ap (cell old) x))
        (ap₂ {C = List ℕ} (span table) from' (to' ∙ ap (cell table) y));
  }

-- what stands in a row after its first word; past the greatest number there is nothing
behind_first_lem : (w : List ℕ) (a c e : ℕ) → Sum a 1 c → e ≤ 4294967295 → span w c e ≡ drop 1 (span w a e)
behind_first_lem w a c e s le =
    ⊎_elim
    (λ h. let z = s.is (omega arith) in run_at (cell w) c (a + 1) (e - c) ((e - a) - 1) (omega arith) (omega arith))
    (λ h. let z = s.full (omega arith) in
    span_none w c e (omega arith) ∙ sym (run_at (cell w) (a + 1) (a + 1) ((e - a) - 1) 0 refl (omega arith)))
    (eq-zero-or-pos (a + 1 - 4294967295))
    ∙ sym (drop_run (cell w) a (e - a))

module _ {old table : List ℕ} {p a b c d e f : ℕ} {r : Bool} where
  -- the same, after the number of its kind
  pub words_same : {x y : ℕ} → a ≡ cell old p → Sum a 1 c → x ≡ p + 1 → e ≡ cell old x → e ≤ 4294967295
      → b ≡ cell table p → Sum b 1 d → y ≡ p + 1 → f ≡ cell table y → f ≤ 4294967295
      → SameSpans old c e table d f r → SameWords old table p r
  words_same from s x to low from' s' y to' low' h = record {
    is = h.is
        ∙ ap₂ eq_list (behind_first_lem old a c e s low ∙ ap₂ {C = List ℕ} (λ (k l : ℕ). drop 1 (span old k l)) from (to ∙ ap (cell old) x))
        (behind_first_lem table b d f s' low' ∙ ap₂ {C = List ℕ} (λ (k l : ℕ). drop 1 (span table k l)) from' (to' ∙ ap (cell table) y));
  }

-- rows of two tables compared
abbrev whole : List ℕ → List ℕ → ℕ → ℕ → Bool
whole old table p n = same eq_list (run (words_from old) p n) (run (words_from table) p n)

-- p + k, or the greatest number where that does not fit
abbrev pub nth : ℕ → ℕ → ℕ
nth p k = min (p + k) 4294967295

pub nth_is : {p k q : ℕ} → Sum p k q → q ≡ nth p k
nth_is {p} {k} {q} s =
    ⊎_elim (λ h. let z = s.is (omega arith) in omega arith) (λ h. let z = s.full (omega arith) in omega arith)
    (eq-zero-or-pos (p + k - 4294967295))

rows_from : (old table : List ℕ) (p n i : ℕ) → p + i + n ≤ 4294967295
    → list_all (λ (k : ℕ). eq_list (words_from old (nth p k)) (words_from table (nth p k))) (range_with_len i n) ≡ whole old table (p + i) n
rows_from old table p zero i low = refl
rows_from old table p (suc n) i low =
    ap₂ {C = Bool} (λ (q : ℕ) (r : Bool). eq_list (words_from old q) (words_from table q) && r) (let e : nth p i ≡ p + i = omega arith in e)
    (rows_from old table p n (i + 1) (omega arith) ∙ ap (λ (q : ℕ). whole old table q n) (let e : p + (i + 1) ≡ suc (p + i) = omega arith in e))
    ∙ and_if (eq_list (words_from old (p + i)) (words_from table (p + i))) (whole old table (suc (p + i)) n)

pub rows_same : {old table : List ℕ} {p n : ℕ} {r : Bool}
    → r ≡ list_all (λ (k : ℕ). eq_list (words_from old (nth p k)) (words_from table (nth p k))) (range_with_len 0 n) → SameRows old table p n r
rows_same {old} {table} {p} {n} e = record {
  is = λ low. e ∙ rows_from old table p n 0 (omega arith) ∙ ap (λ (q : ℕ). whole old table q n) (let z : p + 0 ≡ p = omega arith in z);
}

-- equal counts are the same counts
counts_same : {u t : Table} → SameCounts u t true → u ≡ t
counts_same {u} {t} s =
    let a = both_parts (eqb u.names t.names) _ (sym s.is) in
    let b = both_parts (eqb u.entries t.entries) _ a.1 in
    let c = both_parts (eqb u.pairs t.pairs) _ b.1 in
    let d = both_parts (eqb u.marks t.marks) _ c.1 in
    let names = eqb-true u.names t.names a.0 in let entries = eqb-true u.entries t.entries b.0 in
    let pairs = eqb-true u.pairs t.pairs c.0 in let marks = eqb-true u.marks t.marks d.0 in
    let roots = eqb-true u.roots t.roots d.1 in
    λ i. record { names = names i; entries = entries i; pairs = pairs i; marks = marks i; roots = roots i }

-- rows of as many words are the same exactly if what is made of them is
one_word : (x y : List ℕ) → Long 1 x → Long 1 y → eqb (cell x 0) (cell y 0) ≡ eq_list x y
one_word [] y h k = absurd (omega arith)
one_word (a ∷ []) [] h k = absurd (omega arith)
one_word (a ∷ []) (b ∷ []) h k = sym (if_self (eqb a b))
one_word (a ∷ []) (b ∷ d ∷ y) h k = absurd (omega arith)
one_word (a ∷ c ∷ x) y h k = absurd (omega arith)

two_words : (x y : List ℕ) → Long 2 x → Long 2 y → both (eqb (cell x 0) (cell y 0)) (λ _. eqb (cell x 1) (cell y 1)) ≡ eq_list x y
two_words [] y h k = absurd (omega arith)
two_words (a ∷ x) [] h k = absurd (omega arith)
two_words (a ∷ x) (b ∷ y) h k =
    ap (λ (z : Bool). both (eqb a b) (λ _. z)) (one_word x y (omega arith) (omega arith))

module _ {A : Type 0} (n : ℕ) (make : List ℕ → A) (eq : A → A → Bool)
    (is : (x y : List ℕ) → Long n x → Long n y → eq (make x) (make y) ≡ eq_list x y) where
  same_made : (xs ys : List (List ℕ)) → Every (Long n) xs → Every (Long n) ys → same eq (map make xs) (map make ys) ≡ same eq_list xs ys
  same_made [] [] h k = refl
  same_made [] (y ∷ ys) h k = refl
  same_made (x ∷ xs) [] h k = refl
  same_made (x ∷ xs) (y ∷ ys) h k = ap₂ {C = Bool} (λ (a b : Bool). if a (λ _. b) (λ _. false)) (is x y h.0 k.0) (same_made xs ys h.1 k.1)

same_numbers : (xs ys : List ℕ) → eq_list xs ys ≡ same eqb xs ys
same_numbers [] [] = refl
same_numbers [] (y ∷ ys) = refl
same_numbers (x ∷ xs) [] = refl
same_numbers (x ∷ xs) (y ∷ ys) = ap (λ (b : Bool). if (eqb x y) (λ _. b) (λ _. false)) (same_numbers xs ys)

same_length : {A : Type 0} (eq : A → A → Bool) (xs ys : List A) → same eq xs ys ≡ true → length xs ≡ length ys
same_length eq [] [] h = refl
same_length eq [] (y ∷ ys) h = true_false (sym h)
same_length eq (x ∷ xs) [] h = true_false (sym h)
same_length eq (x ∷ xs) (y ∷ ys) h = ap suc (same_length eq xs ys (both_parts (eq x y) (λ _. same eq xs ys) h).1)

-- there are as many
as_many : (f g : ℕ → List ℕ) (p q n m : ℕ) → same eq_list (run f p n) (run g q m) ≡ true → n ≡ m
as_many f g p q n m h = sym (run_length f p n) ∙ same_length eq_list (run f p n) (run g q m) h ∙ run_length g q m

-- by the places of their beginnings
bare_run : (w : List ℕ) (a b n : ℕ) → rows_at + a ≡ b → map (drop 1) (run (row_at w) a n) ≡ run (words_from w) b n
bare_run w a b zero e = refl
bare_run w a b (suc n) e =
    ap₂ {C = List (List ℕ)} ◌∷◌ (ap₂ {C = List ℕ} (λ (i j : ℕ). drop 1 (span w (cell w i) (cell w j))) e (omega arith))
    (bare_run w (suc a) (suc b) n (omega arith))

-- the rows of each section, without the number of their kind
abbrev names : List ℕ → Table → List (List ℕ)
names w t = run (words_from w) (rows_at + 1) t.names

abbrev pairs : List ℕ → Table → List (List ℕ)
pairs w t = run (words_from w) (rows_at + 1 + t.names + t.entries) t.pairs

abbrev marks : List ℕ → Table → List (List ℕ)
marks w t = run (words_from w) (rows_at + 1 + t.names + t.entries + t.pairs) t.marks

abbrev roots : List ℕ → Table → List (List ℕ)
roots w t = run (words_from w) (rows_at + 1 + t.names + t.entries + t.pairs + t.marks) t.roots

-- what a table that was read and accepted has of its slice's rows
record Sheet (w : List ℕ) (t : Table) (T : rules.Table) : Type 0 where
  budget_is : T.budget ≡ cell (row_at w 0) 1
  many_entries : length T.entries ≡ t.entries
  names_are : T.names ≡ names w t
  pairs_are : T.pairs ≡ map pair_of (pairs w t)
  marks_are : T.marks ≡ map (λ (row : List ℕ). cell row 0) (marks w t)
  roots_are : T.roots ≡ map root_of (roots w t)
  pairs_long : Every (Long 2) (pairs w t)
  marks_long : Every (Long 1) (marks w t)
  roots_long : Every (Long 2) (roots w t)

sheet : {text w : List ℕ} {t : Table} {T : rules.Table} → Read text w (Ok t) → table_of text ≡ accepted T → Sheet w t T
unfolding table_from
sheet {text} {w} {t} {T} r e =
    let is : T ≡ from_sections (table_from t w) = same_table text w t T r e in
    let formed = rows_formed text w t T r e in
    let named = bare_run w 1 (rows_at + 1) t.names (omega arith) in
    let paired = bare_run w (1 + t.names + t.entries) (rows_at + 1 + t.names + t.entries) t.pairs (omega arith) in
    let marked = bare_run w (1 + t.names + t.entries + t.pairs) (rows_at + 1 + t.names + t.entries + t.pairs) t.marks (omega arith) in
    let rooted =
    bare_run w (1 + t.names + t.entries + t.pairs + t.marks) (rows_at + 1 + t.names + t.entries + t.pairs + t.marks) t.roots (omega arith) in
    record {
      budget_is = ap (λ (u : rules.Table). u.budget) is;
      many_entries = many text w t T r e;
      names_are = ap (λ (u : rules.Table). u.names) is ∙ named;
      pairs_are = ap (λ (u : rules.Table). u.pairs) is ∙ ap (map pair_of) paired;
      marks_are = ap (λ (u : rules.Table). u.marks) is ∙ ap (map (λ (row : List ℕ). cell row 0)) marked;
      roots_are = ap (λ (u : rules.Table). u.roots) is ∙ ap (map root_of) rooted;
      pairs_long = subst (Every (Long 2)) paired formed.pairs;
      marks_long = subst (Every (Long 1)) marked formed.marks;
      roots_long = subst (Every (Long 2)) rooted formed.roots;
    }

-- `comparable` by the rows
abbrev by_rows : List ℕ → Table → List ℕ → Table → Bool
by_rows old u table t =
    both (eqb (cell (row_at old 0) 1) (cell (row_at table 0) 1))
    (λ _. both (eqb u.entries t.entries)
    (λ _. both (same eq_list (names old u) (names table t))
    (λ _. both (same eq_list (pairs old u) (pairs table t))
    (λ _. both (same eq_list (marks old u) (marks table t)) (λ _. same eq_list (roots old u) (roots table t))))))

module _ {old table : List ℕ} {u t : Table} {T₁ T₂ : rules.Table} (s₁ : Sheet old u T₁) (s₂ : Sheet table t T₂) where
  by_rows_lem : comparable T₁ T₂ ≡ by_rows old u table t
  unfolding comparable
  by_rows_lem =
      let budgets = ap₂ {C = Bool} eqb s₁.budget_is s₂.budget_is in
      let entries = ap₂ {C = Bool} eqb s₁.many_entries s₂.many_entries in
      let named = ap₂ {C = Bool} (same eq_list) s₁.names_are s₂.names_are in
      let paired = ap₂ {C = Bool} (same same_pair) s₁.pairs_are s₂.pairs_are
      ∙ same_made 2 pair_of same_pair two_words (pairs old u) (pairs table t) s₁.pairs_long s₂.pairs_long in
      let marked = same_numbers T₁.marks T₂.marks ∙ ap₂ {C = Bool} (same eqb) s₁.marks_are s₂.marks_are
      ∙ same_made 1 (λ (row : List ℕ). cell row 0) eqb one_word (marks old u) (marks table t) s₁.marks_long s₂.marks_long in
      let rooted = ap₂ {C = Bool} (same same_root) s₁.roots_are s₂.roots_are
      ∙ same_made 2 root_of same_root two_words (roots old u) (roots table t) s₁.roots_long s₂.roots_long in
      λ i. both (budgets i) (λ _. both (entries i) (λ _. both (named i) (λ _. both (paired i) (λ _. both (marked i) (λ _. rooted i)))))

-- what `comparable` by the rows asks
record Agree (old : List ℕ) (u : Table) (table : List ℕ) (t : Table) : Type 0 where
  budgets : cell (row_at old 0) 1 ≡ cell (row_at table 0) 1
  entries : u.entries ≡ t.entries
  named : same eq_list (names old u) (names table t) ≡ true
  paired : same eq_list (pairs old u) (pairs table t) ≡ true
  marked : same eq_list (marks old u) (marks table t) ≡ true
  rooted : same eq_list (roots old u) (roots table t) ≡ true

module _ {old table : List ℕ} {u t : Table} where
  agree : by_rows old u table t ≡ true → Agree old u table t
  agree h =
      let a = both_parts (eqb (cell (row_at old 0) 1) (cell (row_at table 0) 1)) _ h in
      let b = both_parts (eqb u.entries t.entries) _ a.1 in
      let c = both_parts (same eq_list (names old u) (names table t)) _ b.1 in
      let d = both_parts (same eq_list (pairs old u) (pairs table t)) _ c.1 in
      let e = both_parts (same eq_list (marks old u) (marks table t)) _ d.1 in
      record {
        budgets = eqb-true (cell (row_at old 0) 1) (cell (row_at table 0) 1) a.0;
        entries = eqb-true u.entries t.entries b.0;
        named = c.0;
        paired = d.0;
        marked = e.0;
        rooted = e.1;
      }

  agree_counts : Agree old u table t → SameCounts u t true
  agree_counts a =
      let many : (p q n m : ℕ) → same eq_list (run (words_from old) p n) (run (words_from table) q m) ≡ true → n ≡ m =
      as_many (words_from old) (words_from table) in
      record {
        is = rw (
          eq-eqb u.names t.names (many _ _ u.names t.names a.named),
          eq-eqb u.entries t.entries a.entries,
          eq-eqb u.pairs t.pairs (many _ _ u.pairs t.pairs a.paired),
          eq-eqb u.marks t.marks (many _ _ u.marks t.marks a.marked),
          eq-eqb u.roots t.roots (many _ _ u.roots t.roots a.rooted),
        );
      }

-- two tables of which the rows cannot agree
differ : {old table : List ℕ} {u t : Table} → (Laid u old → Laid t table → Agree old u table t → ⊥) → Comparable old u table t false
differ {old} {table} {u} {t} f = record {
  is = λ r₁ e₁ r₂ e₂.
      not_so (by_rows old u table t) (λ h. f r₁.laid r₂.laid (agree h)) ∙ sym (by_rows_lem (sheet r₁ e₁) (sheet r₂ e₂));
}

module _ {old table : List ℕ} {u t : Table} where
  pub counts_other : {c : Bool} → SameCounts u t c → c ≡ false → Comparable old u table t false
  counts_other s e = differ (λ l₁ l₂ a. true_false ((agree_counts a).is ∙ sym s.is ∙ e))

-- rows at a place and of a number that are known
at_place : {old table : List ℕ} {p n : ℕ} {r : Bool} (q m : ℕ) → SameRows old table p n r → p ≡ q → n ≡ m → q + m ≤ 4294967295
    → r ≡ whole old table q m
at_place {old} {table} q m s a b low =
    s.is (omega arith)
    ∙ ap₂ {C = Bool} (whole old table) a b

-- where the counts are the same
module _ {old table : List ℕ} {t : Table} where
  named_by : {n : ℕ} {r : Bool} → Few t → Number t.names n → SameRows old table (rows_at + 1) n r → r ≡ same eq_list (names old t) (names table t)
  named_by f k s =
      let x : t.names ≤ most_names = f.names in
      at_place (rows_at + 1) t.names s refl (k.is (omega arith)) (omega arith)

  paired_by : {p n : ℕ} {r : Bool} → Few t → FirstPair t p → Number t.pairs n → SameRows old table p n r
      → r ≡ same eq_list (pairs old t) (pairs table t)
  paired_by f q k s =
      let x : t.names ≤ most_names = f.names in let y : t.entries ≤ most_entries = f.entries in let z : t.pairs ≤ most_pairs = f.pairs in
      at_place (rows_at + 1 + t.names + t.entries) t.pairs s (q.is f) (k.is (omega arith)) (omega arith)

  marked_by : {p n : ℕ} {r : Bool} → Few t → FirstMark t p → Number t.marks n → SameRows old table p n r
      → r ≡ same eq_list (marks old t) (marks table t)
  marked_by f q k s =
      let x : t.names ≤ most_names = f.names in let y : t.entries ≤ most_entries = f.entries in let z : t.pairs ≤ most_pairs = f.pairs in
      let w : t.marks ≤ most_marks = f.marks in
      at_place (rows_at + 1 + t.names + t.entries + t.pairs) t.marks s (q.is f) (k.is (omega arith)) (omega arith)

  rooted_by : {p n : ℕ} {r : Bool} → Few t → FirstRoot t p → Number t.roots n → SameRows old table p n r
      → r ≡ same eq_list (roots old t) (roots table t)
  rooted_by f q k s =
      let x : t.names ≤ most_names = f.names in let y : t.entries ≤ most_entries = f.entries in let z : t.pairs ≤ most_pairs = f.pairs in
      let w : t.marks ≤ most_marks = f.marks in let v : t.roots ≤ most_roots = f.roots in
      at_place (rows_at + 1 + t.names + t.entries + t.pairs + t.marks) t.roots s (q.is f) (k.is (omega arith)) (omega arith)

module _ {old table : List ℕ} {u t : Table} {c : Bool} (counts : SameCounts u t c) (counted : c ≡ true) where
  -- as many of each: one table of counts
  one : {r : Bool} → Comparable old t table t r → Comparable old u table t r
  one {r} h = subst (λ (v : Table). Comparable old v table t r) (sym (counts_same (subst (SameCounts u t) counted counts))) h

  module _ {b d : ℕ} (mine : Budget old b) (yours : Budget table d) where
    pub budget_other : eqb b d ≡ false → Comparable old u table t false
    budget_other e = one (differ (λ l₁ l₂ a.
        true_false (sym (eq-eqb b d (mine.is (l₁.within 0 (omega arith)) ∙ a.budgets ∙ sym (yours.is (l₂.within 0 (omega arith))))) ∙ e)))

    module _ {m : ℕ} {x : Bool} (budgets : b ≡ d) (m-is : Number t.names m) (x-is : SameRows old table (rows_at + 1) m x) where
      pub names_other : x ≡ false → Comparable old u table t false
      names_other e = one (differ (λ l₁ l₂ a. true_false (sym a.named ∙ sym (named_by l₂.few m-is x-is) ∙ e)))

      module _ {p n : ℕ} {y : Bool} (named : x ≡ true) (p-is : FirstPair t p) (n-is : Number t.pairs n) (y-is : SameRows old table p n y) where
        pub pairs_other : y ≡ false → Comparable old u table t false
        pairs_other e = one (differ (λ l₁ l₂ a. true_false (sym a.paired ∙ sym (paired_by l₂.few p-is n-is y-is) ∙ e)))

        module _ {q k : ℕ} {z : Bool} (paired : y ≡ true) (q-is : FirstMark t q) (k_is : Number t.marks k) (z-is : SameRows old table q k z) where
          pub marks_other : z ≡ false → Comparable old u table t false
          marks_other e = one (differ (λ l₁ l₂ a. true_false (sym a.marked ∙ sym (marked_by l₂.few q-is k_is z-is) ∙ e)))

          pub roots_last : {f l : ℕ} {r : Bool} → z ≡ true → FirstRoot t f → Number t.roots l → SameRows old table f l r → Comparable old u table t r
          roots_last {r = r} marked f-is l-is r-is = one (record {
            is = λ r₁ e₁ r₂ e₂.
                let s₁ = sheet r₁ e₁ in let s₂ = sheet r₂ e₂ in
                let l₁ : Laid t old = r₁.laid in let l₂ : Laid t table = r₂.laid in let few = l₂.few in
                let same-budget = sym (eq-eqb _ _ (sym (mine.is (l₁.within 0 (omega arith))) ∙ budgets ∙ yours.is (l₂.within 0 (omega arith)))) in
                let same_entries = sym (eq-eqb t.entries t.entries refl) in
                let same_names = sym named ∙ named_by few m-is x-is in
                let same-pairs = sym paired ∙ paired_by few p-is n-is y-is in
                let same-marks = sym marked ∙ marked_by few q-is k_is z-is in
                let same-roots = rooted_by few f-is l-is r-is in
                (λ i. both (same-budget i) (λ _. both (same_entries i) (λ _. both (same_names i) (λ _. both (same-pairs i)
                (λ _. both (same-marks i) (λ _. same-roots i))))))
                ∙ sym (by_rows_lem s₁ s₂);
          })

-- tables that may be compared have as many lines of each kind
pub same_counts : {text₁ text₂ old table : List ℕ} {u t : Table} {T₁ T₂ : rules.Table} → Read text₁ old (Ok u) → table_of text₁ ≡ accepted T₁
    → Read text₂ table (Ok t) → table_of text₂ ≡ accepted T₂ → comparable T₁ T₂ ≡ true → u ≡ t
same_counts {old = old} {table = table} r₁ e₁ r₂ e₂ h =
    counts_same (agree_counts {old = old} {table = table} (agree (sym (by_rows_lem (sheet r₁ e₁) (sheet r₂ e₂)) ∙ h)))
