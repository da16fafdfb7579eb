-- Laws of a choice: what holds of its branches, and tests that decide nothing. Assumes nothing.
use mathlib.Core.Path.{◌≡◌, refl}
use mathlib.Core.Bool.{Bool, true, false}
use Prim.Native.Nat.{ℕ}
use native.Mathlib.Omega.{arith}
use Rattle.cells.specs.Part.{if}

-- what holds of both branches holds of the one taken
pub by_branch : {A : Type 0} (P : A → Type 0) (b : Bool) (x y : Unit {0} → A) → P (x tt) → P (y tt) → P (if b x y)
by_branch P true x y p q = p
by_branch P false x y p q = q

-- and so does what holds of each by what its test said
pub by_test : {A : Type 0} (P : A → Type 0) (b : Bool) (x y : Unit {0} → A) → (b ≡ true → P (x tt)) → (b ≡ false → P (y tt)) → P (if b x y)
by_test P true x y p q = p refl
by_test P false x y p q = q refl

-- a test that is handed on
pub if_self : (b : Bool) → if b (λ _. true) (λ _. false) ≡ b
if_self true = refl
if_self false = refl

-- two branches that are one
pub if_same : {A : Type 0} (b : Bool) (x : A) → if b (λ _. x) (λ _. x) ≡ x
if_same true x = refl
if_same false x = refl

pub if_false : (b : Bool) → if b (λ _. false) (λ _. false) ≡ false
if_false b = if_same b false

-- what tells two constructors apart
pub true_false : {A : Type 0} → true ≡ false → A
true_false e = let z : ◌≡◌ {A = ℕ} 0 1 = cc in absurd (omega arith)

-- a test that cannot hold does not
pub not_so : (b : Bool) → (b ≡ true → ⊥) → false ≡ b
not_so true h = absurd (h refl)
not_so false h = refl
