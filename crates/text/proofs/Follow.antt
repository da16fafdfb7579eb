-- What was got so far, with what follows. Assumes nothing.
use mathlib.Core.Path.{◌≡◌, refl, sym, ap}
use Prim.Native.Nat.{ℕ}
use mathlib.Core.List.{List, [], ◌++◌, append_assoc}
use Rattle.rules.specs.Plain.{◌>>=◌}
use mathlib.Core.Option.{Option, none, some}

abbrev pub follow : List ℕ → Option (List ℕ) → Option (List ℕ)
follow got m = m >>= (λ (xs : List ℕ). some (got ++ xs))

pub follow_nil : (m : Option (List ℕ)) → follow [] m ≡ m
follow_nil none = refl
follow_nil (some xs) = refl

pub follow_more : (got x : List ℕ) (m : Option (List ℕ)) → follow got (m >>= (λ (xs : List ℕ). some (x ++ xs))) ≡ follow (got ++ x) m
follow_more got x none = refl
follow_more got x (some xs) = ap (λ (l : List ℕ). some l) (sym (append_assoc got x xs))
