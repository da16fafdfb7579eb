-- Text written into a slice from a position on, as far as the slice reaches.
use Rattle.std.specs.Prelude.{◌≡◌, ℕ, suc, ◌+◌, ◌≤◌, List, [], ◌∷◌, length, set}
use Rattle.text.specs.Keywords.{word_at}
use Rattle.listing.specs.declared.write.Writer.{Writer}

-- o with the bytes of t from p on
abbrev pub over : List ℕ → ℕ → List ℕ → List ℕ
over o p [] = o
over o p (b ∷ bs) = over (set o p b) (suc p) bs

-- t was written into o from p on, and r is the position after it, wherever that is a number
pub record Wrote (t : List ℕ) (p : ℕ) (o o' : List ℕ) (r : ℕ) : Type 0 where
  pub to : p + length t ≤ 4294967295 → r ≡ p + length t
  pub is : p + length t ≤ 4294967295 → o' ≡ over o p t

-- the keyword of kind i was written
pub record WroteKeyword (b : List ℕ) (i p : ℕ) (o o' : List ℕ) (r : ℕ) : Type 0 where
  pub is : Wrote (word_at b i) p o o' r

-- w goes on to w' in the same slice, and R holds of its position and slice before, and of its slice and position after
abbrev pub Writes : (ℕ → List ℕ → List ℕ → ℕ → Type 0) → Writer → Writer → Type 0
Writes R w w' = (w'.out.ghost_name ≡ w.out.ghost_name) × R w.at w.out.now w'.out.now w'.at
