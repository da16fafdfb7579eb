-- A sum over numbers below n, each at most once, is at most the sum over all of those. Assumes nothing.
use mathlib.Core.Path.{◌≡◌, refl, ap}
use mathlib.Core.Bool.{Bool, false}
use Prim.Native.Nat.{ℕ, zero, suc, ◌+◌, ◌≤◌, ◌<◌}
use native.Mathlib.Omega.{arith}
use native.Mathlib.Nat.{not-suc-le-zero, eq-or-lt_of_le}
use mathlib.Core.Logic.{⊎_elim}
use mathlib.Core.List.{List, [], ◌∷◌, ◌++◌}
use lib.ListN.{length}
use lib.Dec.{eqb}
use borrow.Author.Tests.{eq-eqb, ne_eqb}
use Rattle.cells.specs.Part.{if}
use Rattle.rules.specs.Plain.{contains}
use Rattle.laws.proofs.Admitting.{neither}

-- the sum of g over xs
abbrev pub total : (ℕ → ℕ) → List ℕ → ℕ
total g [] = 0
total g (x ∷ xs) = g x + total g xs

-- the sum of g over all numbers below n
abbrev pub sum_to : ℕ → (ℕ → ℕ) → ℕ
sum_to zero g = 0
sum_to (suc n) g = sum_to n g + g n

-- g, but 0 at x
abbrev without : (ℕ → ℕ) → ℕ → ℕ → ℕ
without g x i = if (eqb x i) (λ _. 0) (λ _. g i)

total_last : (g : ℕ → ℕ) (xs : List ℕ) (x : ℕ) → total g (xs ++ (x ∷ [])) ≡ total g xs + g x
total_last g [] x = omega arith
total_last g (y ∷ xs) x = let r = total_last g xs x in omega arith

total_without : (g : ℕ → ℕ) (x : ℕ) (xs : List ℕ) → contains xs x ≡ false → total (without g x) xs ≡ total g xs
total_without g x [] h = refl
total_without g x (y ∷ xs) h =
    let p = neither (eqb x y) (λ _. contains xs x) h in
    let r = total_without g x xs p.1 in
    let e = ap (λ (b : Bool). if b (λ _. 0) (λ _. g y)) p.0 in omega arith

sum_other : (g : ℕ → ℕ) (x n : ℕ) → n ≤ x → sum_to n (without g x) ≡ sum_to n g
sum_other g x zero h = refl
sum_other g x (suc n) h =
    let r = sum_other g x n (omega arith) in
    let e = ap (λ (b : Bool). if b (λ _. 0) (λ _. g n)) (ne_eqb x n (λ p. omega arith)) in omega arith

sum_without : (g : ℕ → ℕ) (x n : ℕ) → x < n → sum_to n g ≡ sum_to n (without g x) + g x
sum_without g x zero h = absurd (not-suc-le-zero h)
sum_without g x (suc n) h =
    ⊎_elim
    (λ (e : x ≡ n). let r = sum_other g x n (omega arith) in
    let z = ap (λ (b : Bool). if b (λ _. 0) (λ _. g n)) (eq-eqb x n e) in let y = ap g e in omega arith)
    (λ (l : x < n). let r = sum_without g x n l in
    let z = ap (λ (b : Bool). if b (λ _. 0) (λ _. g n)) (ne_eqb x n (λ p. omega arith)) in omega arith)
    (eq-or-lt_of_le {n = x} {m = n} (omega arith))

-- a sum over xs, numbers below n, is at most the sum over all of those
pub record Spread (n : ℕ) (xs : List ℕ) : Type 0 where
  pub is : (g : ℕ → ℕ) → total g xs ≤ sum_to n g

pub spread_none : (n : ℕ) → Spread n []
spread_none n = record { is = λ g. omega arith }

-- and one more that is not among them
pub spread_more : {n : ℕ} (xs : List ℕ) (x : ℕ) → Spread n xs → contains xs x ≡ false → x < n → Spread n (xs ++ (x ∷ []))
spread_more {n} xs x s h lt = record {
  is = λ g. omega (arith, total_last g xs x, total_without g x xs h, s.is (without g x), sum_without g x n lt);
}

-- how many there are
pub total_ones : (xs : List ℕ) → total (λ (y : ℕ). 1) xs ≡ length xs
total_ones [] = refl
total_ones (x ∷ xs) = let r = total_ones xs in omega arith

pub sum_ones : (n : ℕ) → sum_to n (λ (y : ℕ). 1) ≡ n
sum_ones zero = refl
sum_ones (suc n) = let r = sum_ones n in omega arith

pub spread_few : {n : ℕ} {xs : List ℕ} → Spread n xs → length xs ≤ n
spread_few {n} {xs} s = omega (arith, s.is (λ (y : ℕ). 1), total_ones xs, sum_ones n)
