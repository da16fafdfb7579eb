-- Lists of numbers that ascend, as keys do: what is left of one from a number on says of that number, and of all above it, what the whole says.
-- Assumes nothing.
use mathlib.Core.Path.{◌≡◌, refl, sym, ap, ◌∙◌, subst}
use mathlib.Core.Bool.{Bool, true, false}
use Prim.Native.Nat.{ℕ, zero, suc, ◌+◌, ◌≤◌, ◌<◌}
use native.Mathlib.Omega.{arith}
use mathlib.Core.List.{List, [], ◌∷◌}
use mathlib.Core.Option.{Option}
use lib.ListN.{length, drop}
use lib.Dec.{ltb}
use borrow.Author.Tests.{ltb-true, lt-ltb, ne_eqb, eq-eqb}
use Rattle.cells.specs.Part.{if}
use Rattle.cells.specs.Placed.{Under}
use Rattle.cells.proofs.Choices.{by_branch, true_false}
use Rattle.rules.specs.Plain.{filter, contains, ascending}
use Rattle.rules.specs.Ceilings.{most_names}
use Rattle.rules.specs.Table.{Field, Attr, field_keys}
use Rattle.laws.specs.Sound.{Orderly}

-- the first is at least a
abbrev pub From : ℕ → List ℕ → Type 0
From a [] = Unit {0}
From a (x ∷ xs) = a ≤ x

-- each is greater than the one before it
abbrev pub Rising : List ℕ → Type 0
Rising [] = Unit {0}
Rising (x ∷ xs) = From (suc x) xs × Rising xs

rising_turn : (b : Bool) (x y : ℕ) (ys : List ℕ) → ltb x y ≡ b → (ascending (y ∷ ys) ≡ true → Rising (y ∷ ys)) → if b (λ _. ascending (y ∷ ys)) (λ _. false) ≡ true → Rising (x ∷ y ∷ ys)
rising_turn true x y ys e f h = (ltb-true x y e, f h)
rising_turn false x y ys e f h = true_false (sym h)

pub rising_of : (xs : List ℕ) → ascending xs ≡ true → Rising xs
rising_of [] h = tt
rising_of (x ∷ []) h = (tt, tt)
rising_of (x ∷ y ∷ ys) h = rising_turn (ltb x y) x y ys refl (rising_of (y ∷ ys)) h

pub ascending_of : (xs : List ℕ) → Rising xs → ascending xs ≡ true
ascending_of [] r = refl
ascending_of (x ∷ []) r = refl
ascending_of (x ∷ y ∷ ys) r = ap (λ (b : Bool). if b (λ _. ascending (y ∷ ys)) (λ _. false)) (lt-ltb x y r.0) ∙ ascending_of (y ∷ ys) r.1

pub from_less : (a b : ℕ) (xs : List ℕ) → a ≤ b → From b xs → From a xs
from_less a b [] h f = tt
from_less a b (x ∷ xs) h f = omega arith

pub from_zero : (xs : List ℕ) → From 0 xs
from_zero [] = tt
from_zero (x ∷ xs) = omega arith

rising_few : (a n : ℕ) (xs : List ℕ) → a ≤ n → From a xs → Rising xs → Under n xs → a + length xs ≤ n
rising_few a n [] h f r u = omega arith
rising_few a n (x ∷ xs) h f r u = let l = rising_few (suc x) n xs u.0 r.0 r.1 u.1 in omega arith

-- numbers below n that ascend are at most n
pub ascending_few : (n : ℕ) (xs : List ℕ) → ascending xs ≡ true → Under n xs → length xs ≤ n
ascending_few n xs h u = let l = rising_few 0 n xs (omega arith) (from_zero xs) (rising_of xs h) u in omega arith

-- numbers that ascend still do when some are left out
module _ (p : ℕ → Bool) where
  from_filter : (a : ℕ) (xs : List ℕ) → From a xs → Rising xs → From a (filter p xs)
  from_filter a [] f r = tt
  from_filter a (x ∷ xs) f r =
      by_branch (From a) (p x) (λ _. x ∷ filter p xs) (λ _. filter p xs) f (from_filter a xs (from_less a (suc x) xs (omega arith) r.0) r.1)

  rising_filter : (xs : List ℕ) → Rising xs → Rising (filter p xs)
  rising_filter [] r = tt
  rising_filter (x ∷ xs) r =
      by_branch Rising (p x) (λ _. x ∷ filter p xs) (λ _. filter p xs) (from_filter (suc x) xs r.0 r.1, rising_filter xs r.1) (rising_filter xs r.1)

  pub ascending_filter : (xs : List ℕ) → ascending xs ≡ true → ascending (filter p xs) ≡ true
  ascending_filter xs h = ascending_of (filter p xs) (rising_filter xs (rising_of xs h))

pub rising_drop : (i : ℕ) (xs : List ℕ) → Rising xs → Rising (drop i xs)
rising_drop zero xs r = r
rising_drop (suc i) [] r = tt
rising_drop (suc i) (x ∷ xs) r = rising_drop i xs r.1

-- of a number above the first it is told by the others
pub contains_above : (x k : ℕ) (xs : List ℕ) → x < k → contains (x ∷ xs) k ≡ contains xs k
contains_above x k xs lt = ap (λ (b : Bool). if b (λ _. true) (λ _. contains xs k)) (ne_eqb k x (λ e. omega arith))

pub contains_first : (x k : ℕ) (xs : List ℕ) → x ≡ k → contains (x ∷ xs) k ≡ true
contains_first x k xs e = ap (λ (b : Bool). if b (λ _. true) (λ _. contains xs k)) (eq-eqb k x (sym e))

-- of a number below the first: it is none of them
pub contains_below : (k : ℕ) (xs : List ℕ) → From (suc k) xs → Rising xs → contains xs k ≡ false
contains_below k [] f r = refl
contains_below k (x ∷ xs) f r =
    ap (λ (b : Bool). if b (λ _. true) (λ _. contains xs k)) (ne_eqb k x (λ e. omega arith)) ∙ contains_below k xs (from_less (suc k) (suc x) xs (omega arith) r.0) r.1

-- a set of the same keys with other types is in order too
pub orderly_same : (a : Attr) (gs : List Field) {d : Option ℕ} → field_keys gs ≡ field_keys a.fields → Orderly a
    → Orderly (record { fields = gs; dyn = d; is_open = a.is_open; optional = a.optional })
orderly_same a gs e o =
    record { ascend = ap ascending e ∙ o.ascend; named = subst (Under most_names) (sym e) o.named; few = o.few; optional = o.optional }
