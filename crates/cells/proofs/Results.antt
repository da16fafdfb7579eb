-- What `?` hands on, where the type of the error stays. Assumes nothing.
use mathlib.Core.Path.{◌≡◌, ap}
use Rattle.std.specs.Prelude.{Result, Ok, Err, IsErrAnd}

pub same_err : {A B : Type 0} {x : B} (r : Result A B) → IsErrAnd r (λ (y : B). y ≡ x) → r ≡ Err x
same_err (Ok y) h = absurd h
same_err (Err y) h = ap Err h
