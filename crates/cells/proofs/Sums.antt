-- A sum that is below the greatest number is the sum; none is greater. Assumes nothing.
use mathlib.Core.Path.{◌≡◌}
use mathlib.Core.Logic.{⊎_elim}
use Prim.Native.Nat.{ℕ, ◌+◌, ◌-◌, ◌≤◌, ◌<◌}
use native.Mathlib.Omega.{arith}
use native.Mathlib.Nat.{eq-zero-or-pos}
use Rattle.cells.specs.Sum.{Sum}

module _ {a b r : ℕ} (s : Sum a b r) where
  pub sum_low : r < 4294967295 → r ≡ a + b
  sum_low h =
      ⊎_elim (λ e. s.is (omega arith)) (λ e. let f = s.full (omega arith) in omega arith) (eq-zero-or-pos (a + b - 4294967295))

  pub sum_most : r ≤ a + b
  sum_most =
      ⊎_elim (λ e. let f = s.is (omega arith) in omega arith) (λ e. let f = s.full (omega arith) in omega arith) (eq-zero-or-pos (a + b - 4294967295))
