-- What a list of numbers contains, and where it stands. Assumes nothing.
use mathlib.Core.Path.{◌≡◌, refl, sym, ap, ◌∙◌}
use mathlib.Core.Bool.{Bool, true, false}
use Prim.Native.Nat.{ℕ, suc, ◌+◌, ◌-◌, ◌≤◌, ◌<◌}
use native.Mathlib.Omega.{arith}
use mathlib.Core.List.{List, [], ◌∷◌}
use mathlib.Core.Option
use mathlib.Core.Option.{some}
use lib.ListN.{length, get_or}
use lib.Dec.{eqb}
use borrow.Author.Tests.{eqb-true}
use Rattle.cells.specs.Part.{if}
use Rattle.cells.proofs.Choices.{true_false}
use Rattle.rules.specs.Plain.{contains, find, position}

-- the number at the place that the search for x, begun at i, tells
pub record Stood (i x : ℕ) (xs : List ℕ) (p : ℕ) : Type 0 where
  pub from : i ≤ p
  pub within : p < i + length xs
  pub is : get_or xs (p - i) 0 ≡ x

module _ (x d : ℕ) where
  -- what the search begun at i tells, d where it finds nothing
  abbrev told : ℕ → List ℕ → ℕ
  told i xs = Option.get_or (find (eqb x) i xs) d

  stood_turn : (b c : Bool) (i y : ℕ) (ys : List ℕ) → eqb x y ≡ b → contains ys x ≡ c → (if b (λ _. true) (λ _. c)) ≡ true
      → (c ≡ true → Stood (suc i) x ys (told (suc i) ys)) → Stood i x (y ∷ ys) (Option.get_or (if b (λ _. some i) (λ _. find (eqb x) (suc i) ys)) d)
  stood_turn true c i y ys e f h g =
      let z : i - i ≡ 0 = omega arith in
      record { from = omega arith; within = omega arith; is = ap (λ (k : ℕ). get_or (y ∷ ys) k 0) z ∙ sym (eqb-true x y e) }
  stood_turn false c i y ys e f h g =
      let s = g h in
      let l = s.from in
      let w = s.within in
      let z : told (suc i) ys - i ≡ suc (told (suc i) ys - suc i) = omega arith in
      record { from = omega arith; within = omega arith; is = ap (λ (k : ℕ). get_or (y ∷ ys) k 0) z ∙ s.is }

  stood : (i : ℕ) (xs : List ℕ) → contains xs x ≡ true → Stood i x xs (told i xs)
  stood i [] h = true_false (sym h)
  stood i (y ∷ ys) h = stood_turn (eqb x y) (contains ys x) i y ys refl refl h (λ e. stood (suc i) ys e)

pub position_below : (x : ℕ) (xs : List ℕ) → contains xs x ≡ true → position (eqb x) xs < length xs
position_below x xs h = let w = (stood x (length xs) 0 xs h).within in omega arith

pub position_is : (x : ℕ) (xs : List ℕ) → contains xs x ≡ true → get_or xs (position (eqb x) xs) 0 ≡ x
position_is x xs h =
    let z : position (eqb x) xs ≡ position (eqb x) xs - 0 = omega arith in ap (λ (k : ℕ). get_or xs k 0) z ∙ (stood x (length xs) 0 xs h).is
