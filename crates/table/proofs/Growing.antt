-- One row more: the counts, the places, and the table that the rows are. Assumes nothing.
use mathlib.Core.Path.{◌≡◌, refl, sym, ap, ap₂, ◌∙◌}
use mathlib.Core.Bool.{true}
use Prim.Native.Nat.{ℕ, zero, suc, ◌+◌, ◌≤◌, ◌<◌}
use native.Mathlib.Omega.{arith}
use native.Mathlib.Nat.{eq-or-lt_of_le}
use native.Mathlib.Numerals.{add-one}
use mathlib.Core.Logic.{◌⊎◌, inl, inr, ⊎_elim}
use mathlib.Core.List.{List, [], ◌∷◌, ◌++◌}
use lib.ListN.{length, set, drop}
use lib.Seq.{get_or-set_same, get_or-set_other}
use borrow.Author.Tests.{eqb-true, leb-true, ne_eqb}
use Rattle.cells.specs.Part.{run, cell}
use Rattle.cells.proofs.Parts.{run_at, run_snoc, run_ext}
use Rattle.rules.specs.Ceilings.{most_ids}
use Rattle.rules.specs.Table.{in_order, add_row, stage_after}
use Rattle.rules.specs.Table as rules
use Rattle.layout.specs.Layout.{rows_at, table_words, table_length}
use Rattle.text.specs.Reads.{span}
use Rattle.text.proofs.Spans.{span_before}
use Rattle.table.specs.declared.judging.Progress.{Progress}
use Rattle.table.specs.declared.judging.Section.{Section}
use Rattle.table.specs.declared.judging.Section.TheVariants.{Budget, Names, Entries, Pairs, Marks, Roots}
use Rattle.table.specs.Rows.{most_lines, begin_at, Few, number_of_section, stage_of, count_row, Fine, advance_by, row_at, bare, table_at, budget_by, Layout}

-- what a row in order tells: it is the budget line and the first, or of a section that is not past
in_order_lem : (stage sec : ℕ) → in_order stage sec ≡ true → ((stage ≡ 0) × (sec ≡ 0)) ⊎ ((stage ≡ 0 → ⊥) × (stage ≤ sec))
in_order_lem zero sec h = inl (refl, eqb-true sec 0 h)
in_order_lem (suc n) sec h = inr ((λ e. let z : ⊥ = omega arith in z), leb-true (suc n) sec (simp (ne_eqb (suc n) 0 (λ e. let z : ⊥ = omega arith in z)) at h))

pub begun_in_order : (stage sec : ℕ) → in_order stage (suc sec) ≡ true → (stage ≡ 0 → ⊥) × (stage ≤ suc sec)
begun_in_order stage sec h = ⊎_elim (λ q. absurd (let e = q.1 in let z : ⊥ = omega arith in z)) (λ q. q) (in_order_lem stage (suc sec) h)

-- equal parts make an equal table
pub built : {b b' : ℕ} {n n' e e' p p' m m' r r' : List (List ℕ)} → b ≡ b' → n ≡ n' → e ≡ e' → p ≡ p' → m ≡ m' → r ≡ r'
    → ◌≡◌ {A = rules.Sections} (record { budget = b; names = n; entries = e; pairs = p; marks = m; roots = r })
    (record { budget = b'; names = n'; entries = e'; pairs = p'; marks = m'; roots = r' })
built x n e p m r = λ i. record { budget = x i; names = n i; entries = e i; pairs = p i; marks = m i; roots = r i }

pub bare_snoc : (rs : List (List ℕ)) (r : List ℕ) → bare (rs ++ (r ∷ [])) ≡ bare rs ++ (drop 1 r ∷ [])
bare_snoc [] r = refl
bare_snoc (x ∷ rs) r = ap (λ (l : List (List ℕ)). drop 1 x ∷ l) (bare_snoc rs r)

empty : (f g : ℕ → List ℕ) (a b n : ℕ) → n ≡ 0 → run f a n ≡ run g b n
empty f g a b n e = ap (run f a) e ∙ sym (ap (run g b) e)

-- the beginning of the row after the last, where that ends
abbrev noted : List ℕ → ℕ → ℕ → List ℕ
noted w n to = set w (rows_at + n) to

module _ (p : Progress) (w : List ℕ) (to : ℕ) (l : Layout p w) (few : p.lines + 1 ≤ most_lines) (room : table_length ≤ length w) where
  old : (i : ℕ) → i ≤ p.lines → begin_at (noted w (p.lines + 1) to) i ≡ begin_at w i
  old i h = get_or-set_other w (rows_at + (p.lines + 1)) (rows_at + i) to 0 (omega arith)

  new : begin_at (noted w (p.lines + 1) to) (p.lines + 1) ≡ to
  new = get_or-set_same w (rows_at + (p.lines + 1)) to 0 (omega arith)

  kept : (a e : ℕ) → table_words ≤ a → span (noted w (p.lines + 1) to) a e ≡ span w a e
  kept a e h = span_before w (rows_at + (p.lines + 1)) to a e (omega arith)

  old_row : (i : ℕ) → i < p.lines → row_at (noted w (p.lines + 1) to) i ≡ row_at w i
  old_row i h =
      ap₂ {C = List ℕ} (span (noted w (p.lines + 1) to)) (old i (omega arith)) (old (i + 1) (omega arith))
      ∙ kept (begin_at w i) (begin_at w (i + 1)) (l.behind i (omega arith))

  new_row : row_at (noted w (p.lines + 1) to) p.lines ≡ span w p.top to
  new_row =
      ap₂ {C = List ℕ} (span (noted w (p.lines + 1) to)) (old p.lines (omega arith) ∙ l.ends) new
      ∙ kept p.top to (omega (arith, l.behind p.lines (omega arith), l.ends))

  keep : (a n : ℕ) → a + n ≤ p.lines → run (row_at w) a n ≡ run (row_at (noted w (p.lines + 1) to)) a n
  keep a n h = run_ext (row_at w) (row_at (noted w (p.lines + 1) to)) a n (λ k x y. sym (old_row k (omega arith)))

  gain : (a n : ℕ) → a + n ≡ p.lines → run (row_at w) a n ++ (span w p.top to ∷ []) ≡ run (row_at (noted w (p.lines + 1) to)) a (n + 1)
  gain a n h =
      ap₂ {C = List (List ℕ)} (λ (x : List (List ℕ)) (y : List ℕ). x ++ (y ∷ [])) (keep a n (omega arith)) (sym (ap (row_at (noted w (p.lines + 1) to)) h ∙ new_row))
      ∙ sym (run_snoc (row_at (noted w (p.lines + 1) to)) a n)
      ∙ run_at (row_at (noted w (p.lines + 1) to)) a a (suc n) (n + 1) refl (sym (add-one n))

  gain_bare : (a n : ℕ) → a + n ≡ p.lines → bare (run (row_at w) a n) ++ (drop 1 (span w p.top to) ∷ []) ≡ bare (run (row_at (noted w (p.lines + 1) to)) a (n + 1))
  gain_bare a n h = sym (bare_snoc (run (row_at w) a n) (span w p.top to)) ∙ ap bare (gain a n h)

  module _ (f : Fine p) where
    budget_kept : (stage_of p ≡ 0 → ⊥) → budget_by (stage_of p) w ≡ cell (row_at (noted w (p.lines + 1) to) 0) 1
    budget_kept h =
        let b = f.begun h in
        let first : row_at w 0 ≡ row_at (noted w (p.lines + 1) to) 0 = sym (old_row 0 (omega arith)) in
        simp (ne_eqb (stage_of p) 0 h) (ap (λ (r : List ℕ). cell r 1) first)

    -- the table that the rows are, with one row more
    pub grown : (s : Section) → in_order (stage_of p) (number_of_section s) ≡ true
        → add_row (table_at (budget_by (stage_of p) w) p.table w) (number_of_section s) (span w p.top to)
        ≡ table_at (budget_by (stage_after (number_of_section s)) (noted w (p.lines + 1) to)) (count_row p.table (number_of_section s)) (noted w (p.lines + 1) to)
    grown Budget h =
        let o : stage_of p ≡ 0 = ⊎_elim (λ q. q.0) (λ q. omega (arith, q.1)) (in_order_lem (stage_of p) 0 h) in
        let z = f.unbegun o in
        let first : span w p.top to ≡ row_at (noted w (p.lines + 1) to) 0 = sym new_row ∙ ap (row_at (noted w (p.lines + 1) to)) z in
        built (ap (λ (r : List ℕ). cell r 1) first)
        (ap bare (empty (row_at w) (row_at (noted w (p.lines + 1) to)) 1 1 p.table.names (f.no_names (omega arith))))
        (empty (row_at w) (row_at (noted w (p.lines + 1) to)) (1 + p.table.names) (1 + p.table.names) p.table.entries (f.no_entries (omega arith)))
        (ap bare (empty (row_at w) (row_at (noted w (p.lines + 1) to)) (1 + p.table.names + p.table.entries) (1 + p.table.names + p.table.entries)
        p.table.pairs (f.no_pairs (omega arith))))
        (ap bare (empty (row_at w) (row_at (noted w (p.lines + 1) to)) (1 + p.table.names + p.table.entries + p.table.pairs)
        (1 + p.table.names + p.table.entries + p.table.pairs) p.table.marks (f.no_marks (omega arith))))
        (ap bare (empty (row_at w) (row_at (noted w (p.lines + 1) to)) (1 + p.table.names + p.table.entries + p.table.pairs + p.table.marks)
        (1 + p.table.names + p.table.entries + p.table.pairs + p.table.marks) p.table.roots (f.no_roots (omega arith))))
    grown Names h =
        let o = begun_in_order (stage_of p) 0 h in
        let b = f.begun o.0 in
        let le = o.1 in
        let ze = f.no_entries (omega arith) in
        let zp = f.no_pairs (omega arith) in
        let zm = f.no_marks (omega arith) in
        let zr = f.no_roots (omega arith) in
        built (budget_kept o.0)
        (gain_bare 1 p.table.names (omega arith))
        (empty (row_at w) (row_at (noted w (p.lines + 1) to)) (1 + p.table.names) (1 + (p.table.names + 1)) p.table.entries ze)
        (ap bare (empty (row_at w) (row_at (noted w (p.lines + 1) to)) (1 + p.table.names + p.table.entries) (1 + (p.table.names + 1) + p.table.entries) p.table.pairs zp))
        (ap bare (empty (row_at w) (row_at (noted w (p.lines + 1) to)) (1 + p.table.names + p.table.entries + p.table.pairs)
        (1 + (p.table.names + 1) + p.table.entries + p.table.pairs) p.table.marks zm))
        (ap bare (empty (row_at w) (row_at (noted w (p.lines + 1) to)) (1 + p.table.names + p.table.entries + p.table.pairs + p.table.marks)
        (1 + (p.table.names + 1) + p.table.entries + p.table.pairs + p.table.marks) p.table.roots zr))
    grown Entries h =
        let o = begun_in_order (stage_of p) 1 h in
        let b = f.begun o.0 in
        let le = o.1 in
        let zp = f.no_pairs (omega arith) in
        let zm = f.no_marks (omega arith) in
        let zr = f.no_roots (omega arith) in
        built (budget_kept o.0)
        (ap bare (keep 1 p.table.names (omega arith)))
        (gain (1 + p.table.names) p.table.entries (omega arith))
        (ap bare (empty (row_at w) (row_at (noted w (p.lines + 1) to)) (1 + p.table.names + p.table.entries) (1 + p.table.names + (p.table.entries + 1)) p.table.pairs zp))
        (ap bare (empty (row_at w) (row_at (noted w (p.lines + 1) to)) (1 + p.table.names + p.table.entries + p.table.pairs)
        (1 + p.table.names + (p.table.entries + 1) + p.table.pairs) p.table.marks zm))
        (ap bare (empty (row_at w) (row_at (noted w (p.lines + 1) to)) (1 + p.table.names + p.table.entries + p.table.pairs + p.table.marks)
        (1 + p.table.names + (p.table.entries + 1) + p.table.pairs + p.table.marks) p.table.roots zr))
    grown Pairs h =
        let o = begun_in_order (stage_of p) 2 h in
        let b = f.begun o.0 in
        let le = o.1 in
        let zm = f.no_marks (omega arith) in
        let zr = f.no_roots (omega arith) in
        built (budget_kept o.0)
        (ap bare (keep 1 p.table.names (omega arith)))
        (keep (1 + p.table.names) p.table.entries (omega arith))
        (gain_bare (1 + p.table.names + p.table.entries) p.table.pairs (omega arith))
        (ap bare (empty (row_at w) (row_at (noted w (p.lines + 1) to)) (1 + p.table.names + p.table.entries + p.table.pairs)
        (1 + p.table.names + p.table.entries + (p.table.pairs + 1)) p.table.marks zm))
        (ap bare (empty (row_at w) (row_at (noted w (p.lines + 1) to)) (1 + p.table.names + p.table.entries + p.table.pairs + p.table.marks)
        (1 + p.table.names + p.table.entries + (p.table.pairs + 1) + p.table.marks) p.table.roots zr))
    grown Marks h =
        let o = begun_in_order (stage_of p) 3 h in
        let b = f.begun o.0 in
        let le = o.1 in
        let zr = f.no_roots (omega arith) in
        built (budget_kept o.0)
        (ap bare (keep 1 p.table.names (omega arith)))
        (keep (1 + p.table.names) p.table.entries (omega arith))
        (ap bare (keep (1 + p.table.names + p.table.entries) p.table.pairs (omega arith)))
        (gain_bare (1 + p.table.names + p.table.entries + p.table.pairs) p.table.marks (omega arith))
        (ap bare (empty (row_at w) (row_at (noted w (p.lines + 1) to)) (1 + p.table.names + p.table.entries + p.table.pairs + p.table.marks)
        (1 + p.table.names + p.table.entries + p.table.pairs + (p.table.marks + 1)) p.table.roots zr))
    grown Roots h =
        let o = begun_in_order (stage_of p) 4 h in
        let b = f.begun o.0 in
        built (budget_kept o.0)
        (ap bare (keep 1 p.table.names (omega arith)))
        (keep (1 + p.table.names) p.table.entries (omega arith))
        (ap bare (keep (1 + p.table.names + p.table.entries) p.table.pairs (omega arith)))
        (ap bare (keep (1 + p.table.names + p.table.entries + p.table.pairs) p.table.marks (omega arith)))
        (gain_bare (1 + p.table.names + p.table.entries + p.table.pairs + p.table.marks) p.table.roots (omega arith))

-- what is asked of the counts, part by part
fine_of : {q : Progress} → Few q.table → q.ids ≤ most_ids → q.top ≤ table_length → q.lines ≤ most_lines → (stage_of q ≡ 0 → q.lines ≡ 0)
    → ((stage_of q ≡ 0 → ⊥) → q.lines ≡ 1 + q.table.names + q.table.entries + q.table.pairs + q.table.marks + q.table.roots)
    → (stage_of q ≤ 0 → q.table.names ≡ 0) → (stage_of q ≤ 1 → q.table.entries ≡ 0) → (stage_of q ≤ 2 → q.table.pairs ≡ 0)
    → (stage_of q ≤ 3 → q.table.marks ≡ 0) → (stage_of q ≤ 4 → q.table.roots ≡ 0) → Fine q
fine_of few ids low lines none some names entries pairs marks roots = record {
  few = few;
  few_ids = ids;
  low = low;
  few_lines = lines;
  unbegun = none;
  begun = some;
  no_names = names;
  no_entries = entries;
  no_pairs = pairs;
  no_marks = marks;
  no_roots = roots;
}

-- the counts, with one row more
module _ (p : Progress) (f : Fine p) (x to : ℕ) where
  pub fine_grown : (s : Section) → in_order (stage_of p) (number_of_section s) ≡ true → Few (advance_by p s x to).table → p.ids + x ≤ most_ids → to ≤ table_length → Fine (advance_by p s x to)
  fine_grown Budget h few ids low =
      let o : stage_of p ≡ 0 = ⊎_elim (λ q. q.0) (λ q. omega (arith, q.1)) (in_order_lem (stage_of p) 0 h) in
      let z = f.unbegun o in
      let zn = f.no_names (omega arith) in
      let ze = f.no_entries (omega arith) in
      let zp = f.no_pairs (omega arith) in
      let zm = f.no_marks (omega arith) in
      let zr = f.no_roots (omega arith) in
      fine_of few ids low (omega arith) (λ e. omega arith) (λ e. omega arith) (λ e. omega arith) (λ e. omega arith) (λ e. omega arith) (λ e. omega arith) (λ e. omega arith)
  fine_grown Names h few ids low =
      let o = begun_in_order (stage_of p) 0 h in
      let b = f.begun o.0 in
      let le = o.1 in
      let ze = f.no_entries (omega arith) in
      let zp = f.no_pairs (omega arith) in
      let zm = f.no_marks (omega arith) in
      let zr = f.no_roots (omega arith) in
      fine_of few ids low (omega arith) (λ e. omega arith) (λ e. omega arith) (λ e. omega arith) (λ e. omega arith) (λ e. omega arith) (λ e. omega arith) (λ e. omega arith)
  fine_grown Entries h few ids low =
      let o = begun_in_order (stage_of p) 1 h in
      let b = f.begun o.0 in
      let le = o.1 in
      let zp = f.no_pairs (omega arith) in
      let zm = f.no_marks (omega arith) in
      let zr = f.no_roots (omega arith) in
      fine_of few ids low (omega arith) (λ e. omega arith) (λ e. omega arith) (λ e. omega arith) (λ e. omega arith) (λ e. omega arith) (λ e. omega arith) (λ e. omega arith)
  fine_grown Pairs h few ids low =
      let o = begun_in_order (stage_of p) 2 h in
      let b = f.begun o.0 in
      let le = o.1 in
      let zm = f.no_marks (omega arith) in
      let zr = f.no_roots (omega arith) in
      fine_of few ids low (omega arith) (λ e. omega arith) (λ e. omega arith) (λ e. omega arith) (λ e. omega arith) (λ e. omega arith) (λ e. omega arith) (λ e. omega arith)
  fine_grown Marks h few ids low =
      let o = begun_in_order (stage_of p) 3 h in
      let b = f.begun o.0 in
      let le = o.1 in
      let zr = f.no_roots (omega arith) in
      fine_of few ids low (omega arith) (λ e. omega arith) (λ e. omega arith) (λ e. omega arith) (λ e. omega arith) (λ e. omega arith) (λ e. omega arith) (λ e. omega arith)
  fine_grown Roots h few ids low =
      let o = begun_in_order (stage_of p) 4 h in
      let b = f.begun o.0 in
      fine_of few ids low (omega arith) (λ e. omega arith) (λ e. omega arith) (λ e. omega arith) (λ e. omega arith) (λ e. omega arith) (λ e. omega arith) (λ e. omega arith)

-- the places, with one row more
module _ (p : Progress) (w : List ℕ) (to : ℕ) (l : Layout p w) (few : p.lines + 1 ≤ most_lines) (room : table_length ≤ length w) (up : p.top ≤ to)
    (q : Progress) (lines : q.lines ≡ p.lines + 1) (top : q.top ≡ to) where
  same : (i : ℕ) → i ≤ p.lines → begin_at (noted w (p.lines + 1) to) i ≡ begin_at w i
  same = old p w to l few room

  last : (i : ℕ) → i ≡ p.lines + 1 → begin_at (noted w (p.lines + 1) to) i ≡ to
  last i e = ap (begin_at (noted w (p.lines + 1) to)) e ∙ new p w to l few room

  pub laid_grown : Layout q (noted w (p.lines + 1) to)
  laid_grown = record {
    ends = last q.lines lines ∙ sym top;
    order = λ i h. ⊎_elim (λ e. let a = same i (omega arith) in let b = last (i + 1) (omega arith) in let c = ap (begin_at w) e in omega (arith, l.ends))
        (λ lt. let a = same i (omega arith) in let b = same (i + 1) (omega arith) in omega (arith, l.order i lt))
        (let le : i ≤ p.lines = omega arith in eq-or-lt_of_le le);
    behind = λ i h. ⊎_elim (λ e. let a = last i e in omega (arith, l.behind p.lines (omega arith), l.ends))
        (λ lt. let a = same i (omega arith) in omega (arith, l.behind i (omega arith))) (let le : i ≤ p.lines + 1 = omega arith in eq-or-lt_of_le le);
    within = λ i h. ⊎_elim (λ e. let a = last i e in omega arith) (λ lt. let a = same i (omega arith) in omega (arith, l.within i (omega arith)))
        (let le : i ≤ p.lines + 1 = omega arith in eq-or-lt_of_le le);
  }
