-- Laws of `filter` and of what it keeps of one number. Assumes nothing.
use mathlib.Core.Path.{◌≡◌, refl, ap, ◌∙◌}
use mathlib.Core.Bool.{Bool, true, false}
use Prim.Native.Nat.{ℕ, suc, ◌<◌}
use mathlib.Core.List.{List, ◌++◌}
use lib.ListN.{length, get_or, take}
use Rattle.rules.specs.Plain.{filter}
use Rattle.laws.proofs.Filtering.{kept, filter_take}
use Rattle.storage.specs.Helds.{only}

kept_only : (b : Bool) (x : ℕ) → kept b x ≡ only b x
kept_only true x = refl
kept_only false x = refl

-- one number more
pub filter_more : (p : ℕ → Bool) (xs : List ℕ) (i : ℕ) → i < length xs → filter p (take (suc i) xs) ≡ filter p (take i xs) ++ only (p (get_or xs i 0)) (get_or xs i 0)
filter_more p xs i lt = filter_take p xs i lt ∙ ap (λ (l : List ℕ). filter p (take i xs) ++ l) (kept_only (p (get_or xs i 0)) (get_or xs i 0))
