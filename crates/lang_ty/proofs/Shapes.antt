-- Disjointness of two nodes, return by return. Assumes nothing.
use mathlib.Core.Path.{◌≡◌, refl, sym, ap, ap₂, ◌∙◌, subst}
use mathlib.Core.Bool.{Bool, true, false, not, ◌||◌}
use Prim.Native.Nat.{ℕ, zero, suc, ◌+◌, ◌≤◌, ◌<◌}
use native.Mathlib.Omega.{arith}
use mathlib.Core.List.{List, [], ◌∷◌}
use lib.ListN.{length}
use lib.Dec.{eqb, ltb, leb}
use borrow.Author.Tests.{eq-eqb, ne_eqb, leb-true, leb-false, lt-leb, not-true, not-false}
use Rattle.cells.specs.Part.{if}
use Rattle.rules.specs.Plain.{any, all, both, contains}
use Rattle.rules.specs.Table.{Attr, attr_at, field_keys}
use Rattle.rules.specs.Types.{Node, encode, kind_of, node_at, as_attr}
use Rattle.rules.specs.Members.{is_subtype_of, lacks, Shape, attr_set_s, lambda_s, shape_of, are_shapes_disjoint, are_output_types_disjoint}
use Rattle.laws.specs.Sound.{Orderly, OrderlySet}
use Rattle.laws.proofs.Rows.{node_of}
use Rattle.laws.proofs.Shapes.{shape_known, shape_other, opaque_first, opaque_second, plain_alike, other_shapes}
use Rattle.lang_ty.specs.declared.arena.OutputTy.{OutputTy}
use Rattle.lang_ty.specs.declared.arena.OutputTy.TheVariants as kinds
use Rattle.lang_ty.specs.declared.arena.Pass.{Pass}
use Rattle.lang_ty.specs.Nodes.{code, Arena, Word, Kind}
use Rattle.lang_ty.specs.Sets.{SetAt, Open, HasField, covers, FieldsCover}
use Rattle.lang_ty.specs.Shapes.{Subtype, SetPlace, Lacks, Apart, Constructor, SameDisjoint, Disjoint}
use Rattle.lang_ty.proofs.Codes.{other}
use Rattle.lang_ty.proofs.Words.{primitive_at}

pub subtype_no : {a b : ℕ} → (b ≡ 2 → ⊥) → Subtype a b (eqb b 2)
unfolding is_subtype_of
subtype_no {a} {b} h = record { is = ne_eqb b 2 h ∙ sym (ap (λ (t : Bool). both t (λ _. ltb a 2)) (ne_eqb b 2 h)) }

pub subtype_yes : {a b : ℕ} {r : Bool} → b ≡ 2 → r ≡ ltb a 2 → Subtype a b r
unfolding is_subtype_of
subtype_yes {a} {b} h e = record { is = e ∙ sym (ap (λ (t : Bool). both t (λ _. ltb a 2)) (eq-eqb b 2 h)) }

-- a field that t lacks and u requires: one that u's keys do not cover
any_all : (p q : ℕ → Bool) (xs : List ℕ) → ((k : ℕ) → p k ≡ not (q k)) → any p xs ≡ not (all q xs)
any_all p q [] h = refl
any_all p q (x ∷ xs) h =
    ap (λ (b : Bool). if b (λ _. true) (λ _. any p xs)) (h x) ∙ turn (q x) (any_all p q xs h) where
      turn : (b : Bool) → any p xs ≡ not (all q xs) → if (not b) (λ _. true) (λ _. any p xs) ≡ not (if b (λ _. all q xs) (λ _. false))
      turn true e = e
      turn false e = refl

or_swap : (a b : Bool) → (a || b) ≡ (b || a)
or_swap true true = refl
or_swap true false = refl
or_swap false true = refl
or_swap false false = refl

lacks_covers : (t u : Attr) → lacks t u ≡ both (eqb t.is_open 0) (λ _. not (all (covers u t) (field_keys u.fields)))
lacks_covers t u =
    ap (λ (b : Bool). both (eqb t.is_open 0) (λ _. b))
    (any_all _ (covers u t) (field_keys u.fields) (λ k. ap not (or_swap (contains (field_keys t.fields) k) (contains u.optional k))))

module _ {w : List ℕ} {a b o : ℕ} (closed : Open w a o) where
  pub lacks_open : (o ≡ 0 → ⊥) → Lacks w a b (eqb o 0)
  lacks_open h =
      record {
        is = λ {t} {u} s v p q.
            ne_eqb o 0 h
            ∙ sym (ap (λ (c : Bool). both c (λ _. not (all (covers u t) (field_keys u.fields)))) (ne_eqb t.is_open 0 (λ z. h (closed.is s ∙ z))))
            ∙ sym (lacks_covers t u);
      }

  pub lacks_closed : {c r : Bool} → o ≡ 0 → FieldsCover w b a c → r ≡ not c → Lacks w a b r
  lacks_closed h f e =
      record {
        is = λ {t} {u} s v p q.
            e ∙ ap not (f.is v s q p)
            ∙ sym (ap (λ (c : Bool). both c (λ _. not (all (covers u t) (field_keys u.fields)))) (eq-eqb t.is_open 0 (sym (closed.is s) ∙ h)))
            ∙ sym (lacks_covers t u);
      }

-- the kinds of known constructors are 1 to 4
abbrev known : ℕ → Bool
known k = eqb k 1 || eqb k 4 || eqb k 2 || eqb k 3

known_low : (k : ℕ) → 1 ≤ k → leb k 4 ≡ known k
known_low zero h = absurd (omega arith)
known_low (suc zero) h = refl
known_low (suc (suc zero)) h = refl
known_low (suc (suc (suc zero))) h = refl
known_low (suc (suc (suc (suc zero)))) h = refl
known_low (suc (suc (suc (suc (suc k))))) h =
    lt-leb (suc (suc (suc (suc (suc k))))) 4 (omega arith)
    ∙ sym (λ i. ne_eqb (suc (suc (suc (suc (suc k))))) 1 (λ e. omega arith) i || ne_eqb (suc (suc (suc (suc (suc k))))) 4 (λ e. omega arith) i || ne_eqb
    (suc (suc (suc (suc (suc k))))) 2 (λ e. omega arith) i || ne_eqb (suc (suc (suc (suc (suc k))))) 3 (λ e. omega arith) i)

known_out : (k : ℕ) → known k ≡ false → 1 ≤ k → k ≤ 4 → ⊥
known_out k e a b = let z = leb-false k 4 (known_low k a ∙ e) in omega arith

known_in : (k : ℕ) → known k ≡ true → (1 ≤ k) × (k ≤ 4)
known_in zero e = let z : ◌≡◌ {A = ℕ} 0 1 = cc in absurd (omega arith)
known_in (suc k) e = (omega arith, leb-true (suc k) 4 (known_low (suc k) (omega arith) ∙ e))

-- the set of node x
abbrev pub set_of : List Node → ℕ → Attr
set_of ns x = attr_at (encode (node_at ns x)) 1

-- where the set of a node of kind 4 stands, and that its keys are in order
module _ {w : List ℕ} {q : Pass} {ns : List Node} {x : ℕ} (h : Arena w q ns) (lt : x < length ns) where
  pub set_at_lem : {p : ℕ} → kind_of (node_at ns x) ≡ 4 → SetPlace w x p → SetAt w p (set_of ns x)
  set_at_lem e p = p.is h lt (sym (node_of (node_at ns x) 4 e))

  pub set_orderly : kind_of (node_at ns x) ≡ 4 → Orderly (set_of ns x)
  set_orderly e = subst (λ (n : Node). OrderlySet (as_attr n)) (sym (node_of (node_at ns x) 4 e)) (h.ordered.is x lt)

-- disjointness by the shapes of the two nodes
by_shapes : (ns : List Node) (functor a b : ℕ) {s t : Shape} {r : Bool} → s ≡ shape_of (node_at ns a) → t ≡ shape_of (node_at ns b) → r ≡ are_shapes_disjoint functor s t
    → r ≡ are_output_types_disjoint functor ns a b
unfolding are_output_types_disjoint
by_shapes ns functor a b e f g = g ∙ ap₂ (are_shapes_disjoint functor) e f

set_shape_lem : (ns : List Node) (x : ℕ) → kind_of (node_at ns x) ≡ 4 → attr_set_s (set_of ns x) ≡ shape_of (node_at ns x)
set_shape_lem ns x e = ap shape_of (node_of (node_at ns x) 4 e)

lambda_shape : (ns : List Node) (x : ℕ) → kind_of (node_at ns x) ≡ 3 → lambda_s ≡ shape_of (node_at ns x)
lambda_shape ns x e = ap shape_of (node_of (node_at ns x) 3 e)

-- two of one constructor
module _ {w : List ℕ} {k : OutputTy} {a b : ℕ} where
  pub same_primitive : {x y : ℕ} {r : Bool} → k ≡ kinds.Primitive → Word w a 1 x → Word w b 1 y → Apart x y r → SameDisjoint w (code k) a b r
  unfolding are_shapes_disjoint
  same_primitive e x y g =
      record {
        is = λ {q} {ns} h la lb ea eb low high functor.
            by_shapes ns functor a b (ap shape_of (primitive_at h la (ea ∙ ap code e) x)) (ap shape_of (primitive_at h lb (eb ∙ ap code e) y)) g.is;
      }

  pub same_plain : (k ≡ kinds.Primitive → ⊥) → (k ≡ kinds.AttrSet → ⊥) → SameDisjoint w (code k) a b false
  same_plain f' g' =
      let f = other kinds.Primitive f' in
      let g = other kinds.AttrSet g' in
      record {
        is = λ {q} {ns} h la lb ea eb low high functor.
            let x = shape_known (node_at ns a) (omega arith) (omega arith) in
            let y = shape_known (node_at ns b) (omega arith) (omega arith) in
            by_shapes ns functor a b refl refl (sym (plain_alike functor (shape_of (node_at ns a)) (shape_of (node_at ns b)) (omega arith) (omega arith) (omega arith)));
      }

  module _ {x y : ℕ} {c : Bool} (is_set : k ≡ kinds.AttrSet) (px : SetPlace w a x) (py : SetPlace w b y) (one : Lacks w x y c) where
    e : code k ≡ 4
    e = ap code is_set

    pub same_first : c ≡ true → SameDisjoint w (code k) a b c
    unfolding are_shapes_disjoint
    same_first t =
        record {
          is = λ {q} {ns} h la lb ea eb low high functor.
              by_shapes ns functor a b (set_shape_lem ns a (ea ∙ e)) (set_shape_lem ns b (eb ∙ e))
              (t ∙ ap (λ (z : Bool). z || lacks (set_of ns b) (set_of ns a)) (sym t ∙ one.is (set_at_lem h la (ea ∙ e) px) (set_at_lem h lb (eb ∙ e) py) (set_orderly h la (ea ∙ e)) (set_orderly h lb (eb ∙ e))));
        }

    pub same_second : {d : Bool} → c ≡ false → Lacks w y x d → SameDisjoint w (code k) a b d
    unfolding are_shapes_disjoint
    same_second t two =
        record {
          is = λ {q} {ns} h la lb ea eb low high functor.
              let sa = set_at_lem h la (ea ∙ e) px in
              let sb = set_at_lem h lb (eb ∙ e) py in
              let oa = set_orderly h la (ea ∙ e) in
              let ob = set_orderly h lb (eb ∙ e) in
              by_shapes ns functor a b (set_shape_lem ns a (ea ∙ e)) (set_shape_lem ns b (eb ∙ e))
              (two.is sb sa ob oa ∙ ap (λ (z : Bool). z || lacks (set_of ns b) (set_of ns a)) (sym t ∙ one.is sa sb oa ob));
        }

-- two nodes
module _ {w : List ℕ} {functor a b j k : ℕ} (first : Kind w a j) (second : Kind w b k) where
  pub disjoint_first : {c : Bool} → Constructor j c → not c ≡ true → Disjoint w functor a b false
  disjoint_first {c} con e =
      record {
        is = λ {q} {ns} h la lb.
            let z = first.is h la in
            let out = known_out j (sym con.is ∙ not-true c e) in
            by_shapes ns functor a b (sym (shape_other (node_at ns a) (λ x y. out (omega arith) (omega arith)))) refl (sym (opaque_first functor (shape_of (node_at ns b))));
      }

  pub disjoint_second : {c : Bool} → Constructor k c → not c ≡ true → Disjoint w functor a b false
  disjoint_second {c} con e =
      record {
        is = λ {q} {ns} h la lb.
            let z = second.is h lb in
            let out = known_out k (sym con.is ∙ not-true c e) in
            by_shapes ns functor a b refl (sym (shape_other (node_at ns b) (λ x y. out (omega arith) (omega arith)))) (sym (opaque_second functor (shape_of (node_at ns a))));
      }

module _ {w : List ℕ} {functor a b : ℕ} {j k : OutputTy} (first : Kind w a (code j)) (second : Kind w b (code k)) where
  pub disjoint_set_lambda : {p : ℕ} {c r : Bool} → j ≡ kinds.AttrSet → k ≡ kinds.Lambda → SetPlace w a p → HasField w p functor c → r ≡ not c → Disjoint w functor a b r
  unfolding are_shapes_disjoint
  disjoint_set_lambda e f p g n =
      record {
        is = λ {q} {ns} h la lb.
            let x = sym (first.is h la) ∙ ap code e in
            by_shapes ns functor a b (set_shape_lem ns a x) (lambda_shape ns b (sym (second.is h lb) ∙ ap code f)) (n ∙ ap not (g.is (set_at_lem h la x p) (set_orderly h la x)));
      }

  pub disjoint_lambda_set : {p : ℕ} {c r : Bool} → j ≡ kinds.Lambda → k ≡ kinds.AttrSet → SetPlace w b p → HasField w p functor c → r ≡ not c → Disjoint w functor a b r
  unfolding are_shapes_disjoint
  disjoint_lambda_set e f p g n =
      record {
        is = λ {q} {ns} h la lb.
            let x = sym (second.is h lb) ∙ ap code f in
            by_shapes ns functor a b (lambda_shape ns a (sym (first.is h la) ∙ ap code e)) (set_shape_lem ns b x) (n ∙ ap not (g.is (set_at_lem h lb x p) (set_orderly h lb x)));
      }

module _ {w : List ℕ} {functor a b j k m n : ℕ} (first : Kind w a j) (second : Kind w b k) (mj : m ≡ j) (nk : n ≡ k) where
  pub disjoint_same : {c r : Bool} → Constructor j c → not c ≡ false → m ≡ n → SameDisjoint w j a b r → Disjoint w functor a b r
  disjoint_same {c} con e f g =
      record {
        is = λ h la lb.
            let z = known_in j (sym con.is ∙ not-false c e) in
            g.is h la lb (sym (first.is h la)) (sym (second.is h lb) ∙ sym (sym mj ∙ f ∙ nk)) z.0 z.1 functor;
      }

  -- neither alike nor a set and a lambda
  module _ {c d : Bool} (con : Constructor j c) (e : not c ≡ false) (con' : Constructor k d) (f : not d ≡ false) (differ : m ≡ n → ⊥) where
    others : (j + k ≡ 7 → ⊥) → Disjoint w functor a b true
    others g =
        record {
          is = λ {q} {ns} h la lb.
              let y = known_in j (sym con.is ∙ not-false c e) in
              let z = known_in k (sym con'.is ∙ not-false d f) in
              let l = first.is h la in
              let m = second.is h lb in
              let x = shape_known (node_at ns a) (omega (arith, y.0)) (omega (arith, y.1)) in
              let v = shape_known (node_at ns b) (omega (arith, z.0)) (omega (arith, z.1)) in
              by_shapes ns functor a b refl refl
              (sym (other_shapes functor (shape_of (node_at ns a)) (shape_of (node_at ns b)) (omega (arith, y.0)) (omega (arith, z.0)) (λ q. differ (omega arith)) (λ q. g (omega arith))));
        }

module _ {w : List ℕ} {functor a b m n : ℕ} {j : OutputTy} (first : Kind w a (code j)) (mj : m ≡ code j) {c d : Bool} (con : Constructor (code j) c) (e : not c ≡ false) where
  module _ {k : OutputTy} (second : Kind w b (code k)) (nk : n ≡ code k) (con' : Constructor (code k) d) (f : not d ≡ false) (differ : m ≡ n → ⊥) where
    pub disjoint_set : j ≡ kinds.AttrSet → (k ≡ kinds.Lambda → ⊥) → Disjoint w functor a b true
    disjoint_set g h = let x = ap code g in others first second mj nk con e con' f differ (λ z. other kinds.Lambda h (omega arith))

    pub disjoint_lambda : j ≡ kinds.Lambda → (k ≡ kinds.AttrSet → ⊥) → Disjoint w functor a b true
    disjoint_lambda g h = let x = ap code g in others first second mj nk con e con' f differ (λ z. other kinds.AttrSet h (omega arith))

  pub disjoint_others : {k : ℕ} → Kind w b k → n ≡ k → Constructor k d → not d ≡ false → (m ≡ n → ⊥) → (j ≡ kinds.AttrSet → ⊥) → (j ≡ kinds.Lambda → ⊥)
      → Disjoint w functor a b true
  disjoint_others {k} second nk con' f differ g' h' =
      let g = other kinds.AttrSet g' in
      let h = other kinds.Lambda h' in
      let y = known_in (code j) (sym con.is ∙ not-false c e) in
      let z = known_in k (sym con'.is ∙ not-false d f) in
      others first second mj nk con e con' f differ (λ x. g (omega (arith, y.1, z.1, h)))
