-- A kind by its number, and back. Assumes nothing.
use mathlib.Core.Path.{◌≡◌, refl, sym, ap, ◌∙◌}
use Prim.Native.Nat.{ℕ, zero, suc, ◌≤◌, ◌<◌}
use native.Mathlib.Omega.{arith}
use Rattle.rules.specs.Types.{Node, kind_of}
use Rattle.rules.specs.Types as rules
use Rattle.lang_ty.specs.declared.arena.OutputTy.{OutputTy}
use Rattle.lang_ty.specs.declared.arena.OutputTy.TheVariants.{TyVar, Primitive, List, Lambda, AttrSet, Union, Intersection, Named, Neg, Bottom, Top}
use Rattle.lang_ty.specs.Nodes.{code}

abbrev kind_at : ℕ → OutputTy
kind_at zero = TyVar
kind_at (suc zero) = Primitive
kind_at (suc (suc zero)) = List
kind_at (suc (suc (suc zero))) = Lambda
kind_at (suc (suc (suc (suc zero)))) = AttrSet
kind_at (suc (suc (suc (suc (suc zero))))) = Union
kind_at (suc (suc (suc (suc (suc (suc zero)))))) = Intersection
kind_at (suc (suc (suc (suc (suc (suc (suc zero))))))) = Named
kind_at (suc (suc (suc (suc (suc (suc (suc (suc zero)))))))) = Neg
kind_at (suc (suc (suc (suc (suc (suc (suc (suc (suc zero))))))))) = Bottom
kind_at (suc (suc (suc (suc (suc (suc (suc (suc (suc (suc k)))))))))) = Top

at_code : (k : OutputTy) → kind_at (code k) ≡ k
at_code TyVar = refl
at_code Primitive = refl
at_code List = refl
at_code Lambda = refl
at_code AttrSet = refl
at_code Union = refl
at_code Intersection = refl
at_code Named = refl
at_code Neg = refl
at_code Bottom = refl
at_code Top = refl

code_injective : (j k : OutputTy) → code j ≡ code k → j ≡ k
code_injective j k e = sym (at_code j) ∙ ap kind_at e ∙ at_code k

pub kind_small : (n : Node) → kind_of n ≤ 10
kind_small (rules.TyVar x) = omega arith
kind_small (rules.Primitive c) = omega arith
kind_small (rules.ListOf a) = omega arith
kind_small (rules.Lambda a b) = omega arith
kind_small (rules.AttrSet t) = omega arith
kind_small (rules.Union ms) = omega arith
kind_small (rules.Intersection ms) = omega arith
kind_small (rules.Named n a) = omega arith
kind_small (rules.Neg a) = omega arith
kind_small rules.Bottom = omega arith
kind_small rules.Top = omega arith

-- a kind that is not k has another number
pub other : {j : OutputTy} (k : OutputTy) → (j ≡ k → ⊥) → code j ≡ code k → ⊥
other {j} k h e = h (code_injective j k e)

-- a number by the kind that was read from it
module _ {w : ℕ} {k : OutputTy} (j : OutputTy) (read : (w ≤ 10 → code k ≡ w) × (10 ≤ w → code k ≡ 10)) where
  pub word_is : code j < 10 → k ≡ j → w ≡ code j
  word_is h e = let f = ap code e in grind (arith, read.0, read.1)

  pub word_is_not : code j ≤ 10 → (k ≡ j → ⊥) → w ≡ code j → ⊥
  word_is_not h e f = other j e (omega (arith, read.0))
