-- What a sum of two cells comes to.
use Rattle.std.specs.Prelude.{◌≡◌, ℕ, ◌+◌, ◌≤◌}

-- r is a + b, or the greatest number where that does not fit
pub record Sum (a b r : ℕ) : Type 0 where
  pub is : a + b ≤ 4294967295 → r ≡ a + b
  pub full : 4294967295 ≤ a + b → r ≡ 4294967295
