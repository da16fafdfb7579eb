-- Laws of tests as numbers and of `contains`: where a number stands, a list with one more at its end, and what is added unless it is there. Assumes nothing.
use mathlib.Core.Path.{◌≡◌, refl, ap, ◌∙◌}
use mathlib.Core.Bool.{Bool, true, false, not}
use Prim.Native.Nat.{ℕ, zero, suc, ◌≤◌, ◌<◌}
use native.Mathlib.Omega.{arith}
use mathlib.Core.List.{List, [], ◌∷◌, ◌++◌}
use lib.ListN.{length, get_or, length-append}
use lib.Dec.{eqb}
use borrow.Author.Tests.{eq-eqb, ne_eqb}
use Rattle.cells.specs.Part.{if}
use Rattle.cells.proofs.Choices.{by_branch, by_test, if_same}
use Rattle.rules.specs.Plain.{flag, contains, add_new}

-- a test as a number
pub flag_few : (b : Bool) → flag b ≤ 1
flag_few true = omega arith
flag_few false = omega arith

pub flag_zero : (b : Bool) → eqb (flag b) 0 ≡ not b
flag_zero true = refl
flag_zero false = refl

pub contains_first : (x : ℕ) (xs : List ℕ) → contains (x ∷ xs) x ≡ true
contains_first x xs = ap (λ (b : Bool). if b (λ _. true) (λ _. contains xs x)) (eq-eqb x x refl)

pub contains_later : (x y : ℕ) (xs : List ℕ) → contains xs y ≡ true → contains (x ∷ xs) y ≡ true
contains_later x y xs h = ap (λ (b : Bool). if (eqb y x) (λ _. true) (λ _. b)) h ∙ if_same (eqb y x) true

pub contains_at : (xs : List ℕ) (k : ℕ) → k < length xs → contains xs (get_or xs k 0) ≡ true
contains_at [] k h = absurd (omega arith)
contains_at (y ∷ ys) zero h = contains_first y ys
contains_at (y ∷ ys) (suc k) h = contains_later y (get_or ys k 0) ys (contains_at ys k (omega arith))

-- with x at the end
module _ (x : ℕ) where
  pub last_itself : (xs : List ℕ) → contains (xs ++ (x ∷ [])) x ≡ true
  last_itself [] = contains_first x []
  last_itself (y ∷ xs) = contains_later y x (xs ++ (x ∷ [])) (last_itself xs)

  pub last_other : (v : ℕ) → (v ≡ x → ⊥) → (xs : List ℕ) → contains (xs ++ (x ∷ [])) v ≡ contains xs v
  last_other v n [] = ap (λ (b : Bool). if b (λ _. true) (λ _. false)) (ne_eqb v x n)
  last_other v n (y ∷ xs) = ap (λ (b : Bool). if (eqb v y) (λ _. true) (λ _. b)) (last_other v n xs)

-- with x at the end, unless it is there
module _ (got : List ℕ) (x : ℕ) where
  pub new_itself : contains (add_new got x) x ≡ true
  new_itself = by_test (λ (l : List ℕ). contains l x ≡ true) (contains got x) (λ _. got) (λ _. got ++ (x ∷ [])) (λ e. e) (λ _. last_itself x got)

  pub new_other : (v : ℕ) → (v ≡ x → ⊥) → contains (add_new got x) v ≡ contains got v
  new_other v n = by_branch (λ (l : List ℕ). contains l v ≡ contains got v) (contains got x) (λ _. got) (λ _. got ++ (x ∷ [])) refl (last_other x v n got)

  pub new_length : length (add_new got x) ≤ suc (length got)
  new_length =
      by_branch (λ (l : List ℕ). length l ≤ suc (length got)) (contains got x) (λ _. got) (λ _. got ++ (x ∷ []))
      (omega arith) (omega (arith, length-append got (x ∷ [])))
