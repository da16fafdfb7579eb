-- Cells of a row: one, every second, all below a limit, ascending, and two spans compared. Assumes nothing.
use mathlib.Core.Path.{◌≡◌, refl, sym, ap, ap₂, ◌∙◌}
use mathlib.Core.Bool.{Bool, true, false}
use Prim.Native.Nat.{ℕ, zero, suc, ◌+◌, ◌-◌, ◌*◌, ◌≤◌, ◌<◌}
use native.Mathlib.Omega.{arith}
use mathlib.Core.List.{List}
use lib.ListN.{get_or-eq_default}
use lib.Dec.{eqb, ltb}
use mathlib.Core.Logic.{⊎_elim}
use Rattle.std.proofs.lemmas.Bool.{cases_lt}
use borrow.Author.Tests.{lt-ltb, le-ltb, eq-eqb, ne_eqb}
use Rattle.cells.specs.Part.{cell, if}
use Rattle.cells.proofs.Parts.{run_get_d}
use Rattle.rules.specs.Plain.{ascending, before}
use Rattle.rules.specs.Table.{all_below}
use Rattle.text.specs.Reads.{span}
use Rattle.text.proofs.Spans.{span_none, span_next, span_length}
use Rattle.table.specs.Rows.{At, every, Steps, Ascend, Below, Before}

module _ {w : List ℕ} {from to k : ℕ} where
  pub at_past : {n : ℕ} → n ≡ to - from → n ≤ k → At w from to k 0
  at_past e h = record { is = sym (get_or-eq_default (span w from to) 0 (let l = span_length w from to in omega arith)) }

  pub at_here : {n r : ℕ} → n ≡ to - from → k < n → r ≡ cell w (from + k) → At w from to k r
  at_here q h e = record { is = e ∙ sym (run_get_d (cell w) from (to - from) k 0 (omega arith)) }

-- every .. at equal arguments
pub every_at : (row : List ℕ) (step a n n' : ℕ) → n ≡ n' → every row step a n ≡ every row step a n'
every_at row step a n n' e = ap (every row step a) e

-- a loop over the cells, with those from p on left to see
pub record Ascending (w : List ℕ) (from to a step n p i : ℕ) : Type 0 where
  pub first : 1 ≤ i
  pub near : p ≤ a + 2 * i
  pub is : ascending (every (span w from to) step p (n - (i - 1))) ≡ ascending (every (span w from to) step a n)

pub ascend_start : {w : List ℕ} {from to a step n : ℕ} → Ascending w from to a step n a 1
ascend_start {w} {from} {to} {a} {step} {n} = record { first = omega arith; near = omega arith; is = ap ascending (every_at (span w from to) step a (n - (1 - 1)) n (omega arith)) }

module _ {w : List ℕ} {from to a step n p i : ℕ} (inv : Ascending w from to a step n p i) where
  few : (m : ℕ) → m ≤ 1 → ascending (every (span w from to) step p m) ≡ true
  few zero h = refl
  few (suc zero) h = refl
  few (suc (suc m)) h = absurd (let z : ⊥ = omega arith in z)

  pub ascend_done : n ≤ i → Ascend w from to a step n true
  ascend_done h = record { is = sym (few (n - (i - 1)) (omega (arith, inv.first))) ∙ inv.is }

  module _ {x y : ℕ} (lt : i < n) (e : At w from to p x) (f : At w from to (p + step) y) where
    turn : if (ltb x y) (λ _. ascending (every (span w from to) step (p + step) (n - ((i + 1) - 1)))) (λ _. false) ≡ ascending (every (span w from to) step a n)
    turn =
        ap₂ {C = Bool} (λ (u v : ℕ). if (ltb u v) (λ _. ascending (every (span w from to) step (p + step) (n - ((i + 1) - 1)))) (λ _. false)) e.is f.is
        ∙ (let z : n - ((i + 1) - 1)
        ≡ suc (n - (i + 1)) = omega arith in ap
        (λ (m : ℕ). if (ltb (cell (span w from to) p) (cell (span w from to) (p + step))) (λ _. ascending (every (span w from to) step (p + step) m))
        (λ _. false)) z)
        ∙ ap ascending (every_at (span w from to) step p (suc (suc (n - (i + 1)))) (n - (i - 1)) (omega (arith, inv.first)))
        ∙ inv.is

    pub ascend_no : y ≤ x → Ascend w from to a step n false
    ascend_no h = record { is = simp (le-ltb x y h) at turn }

    pub ascend_more : Steps a step n → x < y → Ascending w from to a step n (p + step) (i + 1)
    ascend_more s h = record { first = omega arith; near = omega (arith, inv.near, s.stride); is = simp (lt-ltb x y h) at turn }

pub record Checking (w : List ℕ) (from to a step n limit p i : ℕ) : Type 0 where
  pub near : p ≤ a + 2 * i
  pub is : all_below limit (every (span w from to) step p (n - i)) ≡ all_below limit (every (span w from to) step a n)

pub below_start : {w : List ℕ} {from to a step n limit : ℕ} → Checking w from to a step n limit a 0
below_start {w} {from} {to} {a} {step} {n} {limit} = record { near = omega arith; is = ap (all_below limit) (every_at (span w from to) step a (n - 0) n (omega arith)) }

module _ {w : List ℕ} {from to a step n limit p i : ℕ} (inv : Checking w from to a step n limit p i) where
  pub below_done : n ≤ i → Below w from to a step n limit true
  below_done h = record { is = ap (all_below limit) (every_at (span w from to) step p 0 (n - i) (omega arith)) ∙ inv.is }

  module _ {x : ℕ} (lt : i < n) (e : At w from to p x) where
    turn2 : if (ltb x limit) (λ _. all_below limit (every (span w from to) step (p + step) (n - (i + 1)))) (λ _. false) ≡ all_below limit (every (span w from to) step a n)
    turn2 =
        ap (λ (u : ℕ). if (ltb u limit) (λ _. all_below limit (every (span w from to) step (p + step) (n - (i + 1)))) (λ _. false)) e.is
        ∙ ap (all_below limit) (every_at (span w from to) step p (suc (n - (i + 1))) (n - i) (omega arith))
        ∙ inv.is

    pub below_no : limit ≤ x → Below w from to a step n limit false
    below_no h = record { is = simp (le-ltb x limit h) at turn2 }

    pub below_more : Steps a step n → x < limit → Checking w from to a step n limit (p + step) (i + 1)
    below_more s h = record { near = omega (arith, inv.near, s.stride); is = simp (lt-ltb x limit h) at turn2 }

-- two spans compared: what is left says the same as the whole
pub record Comparing (w : List ℕ) (a m b t i k : ℕ) : Type 0 where
  pub is : before (span w i m) (span w k t) ≡ before (span w a m) (span w b t)

pub compare_start : {w : List ℕ} {a m b t : ℕ} → Comparing w a m b t a b
compare_start = record { is = refl }

module _ {w : List ℕ} {a m b t i k : ℕ} (inv : Comparing w a m b t i k) where
  pub compare_short : i < m → t ≤ k → Before w a m b t false
  compare_short h l = record { is = rw (span_next w i m h, span_none w k t l) at inv.is }

  pub compare_end : m ≤ i → Before w a m b t (ltb k t)
  compare_end h =
      ⊎_elim (λ (l : k < t). record { is = simp (lt-ltb k t l) (rw (span_none w i m h, span_next w k t l) at inv.is) })
      (λ (l : t ≤ k). record { is = simp (le-ltb k t l) (rw (span_none w i m h, span_none w k t l) at inv.is) }) (cases_lt k t)

  module _ {x y : ℕ} (h : i < m) (l : k < t) (e : x ≡ cell w i) (f : y ≡ cell w k) where
    turn3 : if (eqb x y) (λ _. before (span w (i + 1) m) (span w (k + 1) t)) (λ _. ltb x y) ≡ before (span w a m) (span w b t)
    turn3 =
        ap₂ {C = Bool} (λ (u v : ℕ). if (eqb u v) (λ _. before (span w (i + 1) m) (span w (k + 1) t)) (λ _. ltb u v)) e f
        ∙ ap₂ {C = Bool} before (sym (span_next w i m h)) (sym (span_next w k t l))
        ∙ inv.is

    pub compare_differ : (x ≡ y → ⊥) → Before w a m b t (ltb x y)
    compare_differ d = record { is = simp (ne_eqb x y d) at turn3 }

    pub compare_more : x ≡ y → Comparing w a m b t (i + 1) (k + 1)
    compare_more d = record { is = simp (eq-eqb x y d) at turn3 }
