-- What the code says of a row is what the rules say of it, of the reading that the rows are. Assumes nothing.
use mathlib.Core.Path.{◌≡◌, refl, sym, ap, ap₂, ◌∙◌, subst}
use mathlib.Core.Bool.{Bool, true, false}
use Prim.Native.Nat.{ℕ, zero, suc, ◌+◌, ◌-◌, ◌≤◌, ◌<◌}
use native.Mathlib.Omega.{arith}
use native.Mathlib.Numerals.{add-one}
use mathlib.Core.Logic.{◌⊎◌, inl, inr, ⊎_elim}
use mathlib.Core.List.{List, [], ◌∷◌, ◌++◌}
use lib.ListN.{length, drop, length-map, length-append, length-drop}
use lib.Dec.{eqb}
use borrow.Author.Tests.{eq-eqb, ne_eqb, eqb-true}
use Rattle.cells.specs.Part.{run, cell, if}
use Rattle.cells.proofs.Parts.{run_at, run_length, run_snoc, run_ext}
use Rattle.rules.specs.Plain.{before}
use Rattle.rules.specs.Table.{entry_of, in_order, add_row, row_weight, add, over, after_last, ascends, frozen_entry, Reading, Admission, admitted, fault, admit, begun, lines, as_set, keys_ascend}
use Rattle.rules.specs.Table as rules
use Rattle.layout.specs.Layout.{rows_at}
use Rattle.text.specs.Reads.{span, Above}
use Rattle.text.proofs.Spans.{span_same, span_length}
use Rattle.table.specs.declared.Table.{Table}
use Rattle.table.specs.declared.judging.Progress.{Progress}
use Rattle.table.specs.declared.judging.Section.{Section}
use Rattle.std.specs.Prelude as std
use Rattle.rules.specs.Refusals.{number}
use Rattle.std.specs.Prelude.{Ok, Err}
use Rattle.rules.specs.declared.Refusal.{Refusal}
use Rattle.rules.specs.declared.Refusal.TheVariants.{Form, Ceiling, Ascent, Frozen}
use Rattle.table.specs.Rows.{begin_at, number_of_section, stage_of, count_row, over_by, name_after, ascends_by, Fine, advance_by, judge_by, row_at, bare, table_at, budget_by, reading_of, Layout}
use Rattle.table.proofs.Growing.{begun_in_order, built, bare_snoc}

zero_or : (n : ℕ) → (n ≡ 0) ⊎ (n ≡ 0 → ⊥)
zero_or zero = inl refl
zero_or (suc n) = inr (λ e. let z : ⊥ = omega arith in z)

-- what is written above the rows leaves the reading
module _ (p : Progress) (w w' : List ℕ) (f : Fine p) (l : Layout p w) (a : Above p.top w w') where
  inside : (k : ℕ) → 1 ≤ k → k < 1 + p.table.names + p.table.entries + p.table.pairs + p.table.marks + p.table.roots → k < p.lines
  inside k low high =
      ⊎_elim
      (λ e. let n = f.no_names (omega arith) in let m = f.no_entries (omega arith) in let o = f.no_pairs (omega arith) in let q = f.no_marks
      (omega arith) in let r = f.no_roots (omega arith) in omega arith)
      (λ e. let b = f.begun e in omega arith)
      (zero_or (stage_of p))

  begin_same : (k : ℕ) → k ≤ p.lines → begin_at w k ≡ begin_at w' k
  begin_same k h = sym (a.below (rows_at + k) (omega (arith, l.behind p.lines (omega arith), l.ends, f.few_lines)))

  row_same : (k : ℕ) → k < p.lines → row_at w k ≡ row_at w' k
  row_same k h =
      sym (span_same p.top w w' (begin_at w k) (begin_at w (k + 1)) a (l.within (k + 1) (omega arith)))
      ∙ ap₂ {C = List ℕ} (span w') (begin_same k (omega arith)) (begin_same (k + 1) (omega arith))

  -- and the places of the rows
  pub layout_same : Layout p w'
  layout_same = record {
    ends = sym (begin_same p.lines (omega arith)) ∙ l.ends;
    order = λ i h. let x = begin_same i (omega arith) in let y = begin_same (i + 1) (omega arith) in omega (arith, l.order i h);
    behind = λ i h. let x = begin_same i h in omega (arith, l.behind i h);
    within = λ i h. let x = begin_same i h in omega (arith, l.within i h);
  }

  run_same : (b n : ℕ) → 1 ≤ b → b + n ≤ 1 + p.table.names + p.table.entries + p.table.pairs + p.table.marks + p.table.roots → run (row_at w) b n ≡ run (row_at w') b n
  run_same b n low high = run_ext (row_at w) (row_at w') b n (λ k x y. row_same k (inside k (omega arith) (omega arith)))

  budget_same : budget_by (stage_of p) w ≡ budget_by (stage_of p) w'
  budget_same =
      ⊎_elim
      (λ e. simp (eq-eqb (stage_of p) 0 e))
      (λ e. let b = f.begun e in let z = row_same 0 (omega arith) in simp (ne_eqb (stage_of p) 0 e) (ap (λ (r : List ℕ). cell r 1) z))
      (zero_or (stage_of p))

  table_same : table_at (budget_by (stage_of p) w) p.table w ≡ table_at (budget_by (stage_of p) w') p.table w'
  table_same =
      built budget_same
      (ap bare (run_same 1 p.table.names (omega arith) (omega arith)))
      (run_same (1 + p.table.names) p.table.entries (omega arith) (omega arith))
      (ap bare (run_same (1 + p.table.names + p.table.entries) p.table.pairs (omega arith) (omega arith)))
      (ap bare (run_same (1 + p.table.names + p.table.entries + p.table.pairs) p.table.marks (omega arith) (omega arith)))
      (ap bare (run_same (1 + p.table.names + p.table.entries + p.table.pairs + p.table.marks) p.table.roots (omega arith) (omega arith)))

  pub reading_same : reading_of p w ≡ reading_of p w'
  reading_same = ap (λ (t : rules.Sections). record { stage = (stage_of p); ids = p.ids; table = t }) table_same

-- the ceilings, by counts
abbrev lengths_of : rules.Sections → Table
lengths_of t = record { names = length t.names; entries = length t.entries; pairs = length t.pairs; marks = length t.marks; roots = length t.roots }

map_if : (f : rules.Sections → Table) (b : Bool) (x y : Unit {0} → rules.Sections) (x' y' : Unit {0} → Table) → f (x tt) ≡ x' tt → f (y tt) ≡ y' tt → f (if b x y) ≡ if b x' y'
map_if f true x y x' y' p q = p
map_if f false x y x' y' p q = q

lengths_add : (t : rules.Sections) (s : ℕ) (row : List ℕ) → lengths_of (add_row t s row) ≡ count_row (lengths_of t) s
lengths_add t s row =
    map_if lengths_of (eqb s 0) _ _ _ _ refl
    (map_if lengths_of (eqb s 1) _ _ _ _
    (λ i. record {
      names = length-append t.names (drop 1 row ∷ []) i;
      entries = length t.entries;
      pairs = length t.pairs;
      marks = length t.marks;
      roots = length t.roots;
    })
    (map_if lengths_of (eqb s 2) _ _ _ _
    (λ i. record {
      names = length t.names;
      entries = length-append t.entries (row ∷ []) i;
      pairs = length t.pairs;
      marks = length t.marks;
      roots = length t.roots;
    })
    (map_if lengths_of (eqb s 3) _ _ _ _
    (λ i. record {
      names = length t.names;
      entries = length t.entries;
      pairs = length-append t.pairs (drop 1 row ∷ []) i;
      marks = length t.marks;
      roots = length t.roots;
    })
    (map_if lengths_of (eqb s 4) _ _ _ _
    (λ i. record {
      names = length t.names;
      entries = length t.entries;
      pairs = length t.pairs;
      marks = length-append t.marks (drop 1 row ∷ []) i;
      roots = length t.roots;
    })
    (λ i. record { names = length t.names; entries = length t.entries; pairs = length t.pairs; marks = length t.marks; roots = length-append t.roots (drop 1 row ∷ []) i })))))

pub bare_length : (w : List ℕ) (a n : ℕ) → length (bare (run (row_at w) a n)) ≡ n
bare_length w a n = length-map (run (row_at w) a n) (drop 1) ∙ run_length (row_at w) a n

lengths_at : (b : ℕ) (t : Table) (w : List ℕ) → lengths_of (table_at b t w) ≡ t
lengths_at b t w = λ i. record {
  names = bare_length w 1 t.names i;
  entries = run_length (row_at w) (1 + t.names) t.entries i;
  pairs = bare_length w (1 + t.names + t.entries) t.pairs i;
  marks = bare_length w (1 + t.names + t.entries + t.pairs) t.marks i;
  roots = bare_length w (1 + t.names + t.entries + t.pairs + t.marks) t.roots i;
}

module _ (p : Progress) (w : List ℕ) (to : ℕ) where
  over_same : (sec : ℕ) → over_by (count_row p.table sec) (p.ids + row_weight sec (span w p.top to)) sec ((to - p.top) - 1)
      ≡ over (add (reading_of p w) sec (span w p.top to)) sec (span w p.top to)
  over_same sec =
      let sizes : count_row p.table sec
      ≡ lengths_of (add_row (table_at (budget_by (stage_of p) w) p.table w) sec (span w p.top to)) = ap (λ (t : Table). count_row t sec)
      (sym (lengths_at (budget_by (stage_of p) w) p.table w)) ∙ sym (lengths_add (table_at (budget_by (stage_of p) w) p.table w) sec (span w p.top to)) in
      let size : (to - p.top) - 1 ≡ length (drop 1 (span w p.top to)) = let a = length-drop 1 (span w p.top to) in let b = span_length w p.top to in omega arith in
      ap₂ {C = Bool} (λ (t : Table) (n : ℕ). over_by t (p.ids + row_weight sec (span w p.top to)) sec n) sizes size

-- the last name
after_last_lem : (xs : List (List ℕ)) (l new : List ℕ) → after_last (xs ++ (l ∷ [])) new ≡ before l new
after_last_lem [] l new = refl
after_last_lem (x ∷ []) l new = refl
after_last_lem (x ∷ y ∷ xs) l new = after_last_lem (y ∷ xs) l new

drop_one : (f : ℕ → ℕ) (a n : ℕ) → drop 1 (run f a n) ≡ run f (a + 1) (n - 1)
drop_one f a zero = refl
drop_one f a (suc n) = run_at f (suc a) (a + 1) n (suc n - 1) (sym (add-one a)) (omega arith)

drop_span : (w : List ℕ) (a e : ℕ) → drop 1 (span w a e) ≡ span w (a + 1) e
drop_span w a e = drop_one (cell w) a (e - a) ∙ run_at (cell w) (a + 1) (a + 1) ((e - a) - 1) (e - (a + 1)) refl (omega arith)

if_at : (b : Bool) (x x' y : Bool) → (b ≡ true → x ≡ x') → if b (λ _. x) (λ _. y) ≡ if b (λ _. x') (λ _. y)
if_at true x x' y h = h refl
if_at false x x' y h = refl

module _ (p : Progress) (w : List ℕ) (to : ℕ) (f : Fine p) (l : Layout p w) where
  names_by : (n : ℕ) → n ≡ p.table.names → n + 1 ≡ p.lines → name_after p w to ≡ after_last (bare (run (row_at w) 1 n)) (drop 1 (span w p.top to))
  names_by zero e h = simp (eq-eqb p.table.names 0 (sym e))
  names_by (suc m) e h =
      let here : begin_at w (1 + m + 1) ≡ p.top = ap (begin_at w) (omega arith) ∙ l.ends in
      let some-names : eqb p.table.names 0 ≡ false = ne_eqb p.table.names 0 (λ z. omega arith) in
      let last : drop 1 (row_at w (1 + m)) ≡ span w (begin_at w p.table.names + 1) p.top =
      drop_span w (begin_at w (1 + m)) (begin_at w (1 + m + 1)) ∙ ap₂ {C = List ℕ} (λ (x y : ℕ). span w (begin_at w x + 1) y) (let z : 1 + m ≡ p.table.names = omega arith in z) here in
      simp some-names
      (ap₂ {C = Bool} before (sym last) (sym (drop_span w p.top to))
      ∙ sym (after_last_lem (bare (run (row_at w) 1 m)) (drop 1 (row_at w (1 + m))) (drop 1 (span w p.top to)))
      ∙ ap (λ (x : List (List ℕ)). after_last x (drop 1 (span w p.top to))) (sym (ap bare (run_snoc (row_at w) 1 m) ∙ bare_snoc (run (row_at w) 1 m) (row_at w (1 + m)))))

  ascends_same : (sec : ℕ) → in_order (stage_of p) sec ≡ true → ascends_by p w to sec ≡ ascends (table_at (budget_by (stage_of p) w) p.table w) sec (span w p.top to)
  ascends_same sec h =
      if_at (eqb sec 1) (name_after p w to) (after_last (bare (run (row_at w) 1 p.table.names)) (drop 1 (span w p.top to)))
      (if (eqb sec 2) (λ _. keys_ascend (as_set (entry_of (span w p.top to)))) (λ _. true))
      (λ q.
      let o = begun_in_order (stage_of p) 0 (subst (λ (k : ℕ). in_order (stage_of p) k ≡ true) (eqb-true sec 1 q) h) in
      let b = f.begun o.0 in
      let le = o.1 in
      let ze = f.no_entries (omega arith) in
      let zp = f.no_pairs (omega arith) in
      let zm = f.no_marks (omega arith) in
      let zr = f.no_roots (omega arith) in
      names_by p.table.names refl (omega arith))

-- what the code says of a row, as the rules say it; z is the reading with the row
abbrev pub said : std.Result Progress Refusal → Reading → Admission
said (Ok q) z = admitted z
said (Err k) z = fault (number k)

push : (a b c d : Bool) (n : Progress) (z : Reading)
    → said (if a (λ _. if b (λ _. Err Ceiling) (λ _. if c (λ _. if d (λ _. Err Frozen) (λ _. Ok n)) (λ _. Err Ascent))) (λ _. Err Form)) z
    ≡ if a (λ _. if b (λ _. fault 2) (λ _. if c (λ _. if d (λ _. fault 5) (λ _. admitted z)) (λ _. fault 4))) (λ _. fault 1)
push false b c d n z = refl
push true true c d n z = refl
push true false false d n z = refl
push true false true true n z = refl
push true false true false n z = refl

-- a row that is taken was in order, and leads on
pub passed : (a b c d : Bool) (q n : Progress) → Ok q ≡ if a (λ _. if b (λ _. Err Ceiling) (λ _. if c (λ _. if d (λ _. Err Frozen) (λ _. Ok n)) (λ _. Err Ascent))) (λ _. Err Form) → (a ≡ true) × (q ≡ n)
passed false b c d q n e = absurd (let z : ◌≡◌ {A = ℕ} 0 1 = cc in omega arith)
passed true true c d q n e = absurd (let z : ◌≡◌ {A = ℕ} 0 1 = cc in omega arith)
passed true false false d q n e = absurd (let z : ◌≡◌ {A = ℕ} 0 1 = cc in omega arith)
passed true false true true q n e = absurd (let z : ◌≡◌ {A = ℕ} 0 1 = cc in omega arith)
passed true false true false q n e = (refl, cc)

if_when : (a : Bool) (x y : Admission) (z : Admission) → (a ≡ true → x ≡ y) → if a (λ _. x) (λ _. z) ≡ if a (λ _. y) (λ _. z)
if_when true x y z h = h refl
if_when false x y z h = refl

module _ (p : Progress) (w : List ℕ) (to : ℕ) (f : Fine p) (l : Layout p w) where
  pub admitted_by : (s : Section) → said (judge_by p w to s) (add (reading_of p w) (number_of_section s) (span w p.top to)) ≡ admit (reading_of p w) (number_of_section s) (span w p.top to)
  admitted_by s =
      push (in_order (stage_of p) (number_of_section s)) (over_by (count_row p.table (number_of_section s)) (p.ids + row_weight (number_of_section s) (span w p.top to)) (number_of_section s) ((to - p.top) - 1))
      (ascends_by p w to (number_of_section s)) (eqb (cell (span w p.top to) 0) frozen_entry) (advance_by p s (row_weight (number_of_section s) (span w p.top to)) to)
      (add (reading_of p w) (number_of_section s) (span w p.top to))
      ∙ if_when (in_order (stage_of p) (number_of_section s)) _ _ (fault 1)
      (λ h. ap₂ {C = Admission}
      (λ (b c : Bool). if b (λ _. fault 2)
      (λ _. if c (λ _. if (eqb (cell (span w p.top to) 0) frozen_entry) (λ _. fault 5) (λ _. admitted (add (reading_of p w) (number_of_section s) (span w p.top to))))
      (λ _. fault 4))) (over_same p w to (number_of_section s)) (ascends_same p w to f l (number_of_section s) h))
