-- Lists that stand in a slice, and lists of small numbers: premises and promises of contracts.
use Rattle.std.specs.Prelude.{◌≡◌, ℕ, ◌<◌, List, [], ◌∷◌, length}
use Rattle.cells.specs.Part.{part}

-- xs stand in w from a on
pub record Holds (w : List ℕ) (a : ℕ) (xs : List ℕ) : Type 0 where
  pub is : part w a (length xs) ≡ xs

-- each of xs is below k
abbrev pub Under : ℕ → List ℕ → Type 0
Under k [] = Unit {0}
Under k (x ∷ xs) = (x < k) × Under k xs
