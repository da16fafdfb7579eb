-- Zeros in a part of a slice.
use Rattle.std.specs.Prelude.{◌≡◌, ℕ, ◌+◌, ◌≤◌, ◌<◌, List}
use Rattle.cells.specs.Part.{cell}

-- the n cells from a on are zero, and the others are as before
pub record Clears (s : List ℕ) (a n : ℕ) (s' : List ℕ) : Type 0 where
  pub zero : (k : ℕ) → a ≤ k → k < a + n → cell s' k ≡ 0
  pub before : (k : ℕ) → k < a → cell s' k ≡ cell s k
  pub behind : (k : ℕ) → a + n ≤ k → cell s' k ≡ cell s k
