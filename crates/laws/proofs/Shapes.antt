-- Laws of disjointness: what a node's kind says of its shape, and of two shapes. Assumes nothing.
use mathlib.Core.Path.{◌≡◌, refl}
use mathlib.Core.Bool.{true, false}
use Prim.Native.Nat.{ℕ, ◌+◌, ◌≤◌}
use native.Mathlib.Omega.{arith}
use Rattle.rules.specs.Types.{Node, TyVar, Primitive, ListOf, Lambda, AttrSet, Union, Intersection, Named, Neg, Bottom, Top, kind_of}
use Rattle.rules.specs.Members.{Shape, primitive_s, attr_set_s, list_s, lambda_s, opaque_s, shape_of, are_shapes_disjoint}

-- the kind of a known constructor, 0 of any other
abbrev pub shape_kind : Shape → ℕ
shape_kind (primitive_s c) = 1
shape_kind (attr_set_s t) = 4
shape_kind list_s = 2
shape_kind lambda_s = 3
shape_kind opaque_s = 0

pub shape_known : (n : Node) → 1 ≤ kind_of n → kind_of n ≤ 4 → shape_kind (shape_of n) ≡ kind_of n
shape_known (TyVar x) a b = omega arith
shape_known (Primitive c) a b = refl
shape_known (ListOf x) a b = refl
shape_known (Lambda x y) a b = refl
shape_known (AttrSet t) a b = refl
shape_known (Union ms) a b = omega arith
shape_known (Intersection ms) a b = omega arith
shape_known (Named m x) a b = omega arith
shape_known (Neg x) a b = omega arith
shape_known Bottom a b = omega arith
shape_known Top a b = omega arith

pub shape_other : (n : Node) → (1 ≤ kind_of n → kind_of n ≤ 4 → ⊥) → shape_of n ≡ opaque_s
shape_other (TyVar x) h = refl
shape_other (Primitive c) h = absurd (h (omega arith) (omega arith))
shape_other (ListOf x) h = absurd (h (omega arith) (omega arith))
shape_other (Lambda x y) h = absurd (h (omega arith) (omega arith))
shape_other (AttrSet t) h = absurd (h (omega arith) (omega arith))
shape_other (Union ms) h = refl
shape_other (Intersection ms) h = refl
shape_other (Named m x) h = refl
shape_other (Neg x) h = refl
shape_other Bottom h = refl
shape_other Top h = refl

module _ (functor : ℕ) where
  pub opaque_first : (t : Shape) → are_shapes_disjoint functor opaque_s t ≡ false
  unfolding are_shapes_disjoint
  opaque_first (primitive_s c) = refl
  opaque_first (attr_set_s u) = refl
  opaque_first list_s = refl
  opaque_first lambda_s = refl
  opaque_first opaque_s = refl

  pub opaque_second : (s : Shape) → are_shapes_disjoint functor s opaque_s ≡ false
  unfolding are_shapes_disjoint
  opaque_second (primitive_s c) = refl
  opaque_second (attr_set_s u) = refl
  opaque_second list_s = refl
  opaque_second lambda_s = refl
  opaque_second opaque_s = refl

  -- two lists, two lambdas
  pub plain_alike : (s t : Shape) → shape_kind s ≡ shape_kind t → 2 ≤ shape_kind s → shape_kind s ≤ 3 → are_shapes_disjoint functor s t ≡ false
  unfolding are_shapes_disjoint
  plain_alike (primitive_s c) t e a b = absurd (omega arith)
  plain_alike (attr_set_s u) t e a b = absurd (omega arith)
  plain_alike list_s (primitive_s c) e a b = absurd (omega arith)
  plain_alike list_s (attr_set_s u) e a b = absurd (omega arith)
  plain_alike list_s list_s e a b = refl
  plain_alike list_s lambda_s e a b = absurd (omega arith)
  plain_alike list_s opaque_s e a b = absurd (omega arith)
  plain_alike lambda_s (primitive_s c) e a b = absurd (omega arith)
  plain_alike lambda_s (attr_set_s u) e a b = absurd (omega arith)
  plain_alike lambda_s list_s e a b = absurd (omega arith)
  plain_alike lambda_s lambda_s e a b = refl
  plain_alike lambda_s opaque_s e a b = absurd (omega arith)
  plain_alike opaque_s t e a b = absurd (omega arith)

  -- two constructors other than a set and a lambda, whose kinds add up to 7
  pub other_shapes : (s t : Shape) → 1 ≤ shape_kind s → 1 ≤ shape_kind t → (shape_kind s ≡ shape_kind t → ⊥) → (shape_kind s + shape_kind t ≡ 7 → ⊥)
      → are_shapes_disjoint functor s t ≡ true
  unfolding are_shapes_disjoint
  other_shapes (primitive_s c) (primitive_s d) a b e f = absurd (e refl)
  other_shapes (primitive_s c) (attr_set_s v) a b e f = refl
  other_shapes (primitive_s c) list_s a b e f = refl
  other_shapes (primitive_s c) lambda_s a b e f = refl
  other_shapes (primitive_s c) opaque_s a b e f = absurd (omega arith)
  other_shapes (attr_set_s u) (primitive_s d) a b e f = refl
  other_shapes (attr_set_s u) (attr_set_s v) a b e f = absurd (e refl)
  other_shapes (attr_set_s u) list_s a b e f = refl
  other_shapes (attr_set_s u) lambda_s a b e f = absurd (f refl)
  other_shapes (attr_set_s u) opaque_s a b e f = absurd (omega arith)
  other_shapes list_s (primitive_s d) a b e f = refl
  other_shapes list_s (attr_set_s v) a b e f = refl
  other_shapes list_s list_s a b e f = absurd (e refl)
  other_shapes list_s lambda_s a b e f = refl
  other_shapes list_s opaque_s a b e f = absurd (omega arith)
  other_shapes lambda_s (primitive_s d) a b e f = refl
  other_shapes lambda_s (attr_set_s v) a b e f = absurd (f refl)
  other_shapes lambda_s list_s a b e f = refl
  other_shapes lambda_s lambda_s a b e f = absurd (e refl)
  other_shapes lambda_s opaque_s a b e f = absurd (omega arith)
  other_shapes opaque_s t a b e f = absurd (omega arith)
