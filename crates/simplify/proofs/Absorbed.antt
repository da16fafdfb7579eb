-- Whether one set takes up another. Assumes nothing.
use mathlib.Core.Path.{◌≡◌, refl, sym, ap, ap₂, ◌∙◌, subst}
use mathlib.Core.Bool.{Bool, true, false, not}
use Prim.Native.Nat.{ℕ}
use mathlib.Core.List.{List}
use lib.Dec.{eqb}
use borrow.Author.Tests.{eqb-true, eqb-false, eq-eqb, ne_eqb, not-true, not-false}
use Rattle.rules.specs.Plain.{all, both}
use Rattle.rules.specs.Table.{Attr, attr_at, field_keys}
use Rattle.rules.specs.Members.{no_dyn_or_same, subsumes, subsumes_node}
use Rattle.rules.specs.Types.{Node, TyVar, Primitive, ListOf, Lambda, AttrSet, Union, Intersection, Named, Neg, Bottom, Top, encode, kind_of, node_at, as_attr}
use Rattle.laws.specs.Sound.{Orderly, OrderlySet}
use Rattle.laws.proofs.Rows.{node_of}
use Rattle.lang_ty.specs.Nodes.{Is}
use Rattle.lang_ty.specs.Shapes.{SetPlace}
use Rattle.lang_ty.specs.Sets.{SetAt, Open, covers, FieldsCover}
use Rattle.simplify.specs.Unions.{DynCovers, Subsumes}
use mathlib.Core.Option.{none}

-- the ways of `subsumes`: node y is no set, or the tests of two sets decide one after another
pub no_attr : (n : Node) → (kind_of n ≡ 4 → ⊥) → as_attr n ≡ none
no_attr (TyVar x) h = refl
no_attr (Primitive c) h = refl
no_attr (ListOf a) h = refl
no_attr (Lambda a b) h = refl
no_attr (AttrSet t) h = absurd (h refl)
no_attr (Union ms) h = refl
no_attr (Intersection ms) h = refl
no_attr (Named n a) h = refl
no_attr (Neg a) h = refl
no_attr Bottom h = refl
no_attr Top h = refl

abbrev chain : Bool → Bool → Bool → Bool → Bool
chain p o d f = both (both p (λ _. o)) (λ _. both d (λ _. f))

module _ {w : List ℕ} {x y : ℕ} {c : Bool} (k : Is w 4 y c) where
  pub subsumes_other : not c ≡ true → Subsumes w x y false
  subsumes_other e =
      record {
        is = λ {q} {ns} {t} h lx ly g.
            sym (ap (subsumes_node t) (no_attr (node_at ns y) (eqb-false (kind_of (node_at ns y)) 4 (sym (k.is h ly) ∙ not-true c e))));
      }

  module _ {a b : ℕ} (e : not c ≡ false) (px : SetPlace w x a) (py : SetPlace w y b) where
    sets : {r : Bool} → ((t u : Attr) → SetAt w a t → SetAt w b u → Orderly t → Orderly u → r ≡ subsumes t u) → Subsumes w x y r
    sets g =
        record {
          is = λ {q} {ns} {t} h lx ly i.
              let n = node_at ns y in
              let z = sym (node_of n 4 (eqb-true (kind_of n) 4 (sym (k.is h ly) ∙ not-false c e))) in
              let o = subst (λ (m : Node). OrderlySet (as_attr m)) i (h.ordered.is x lx) in
              let p = subst (λ (m : Node). OrderlySet (as_attr m)) z (h.ordered.is y ly) in
              g t (attr_at (encode n) 1) (px.is h lx i) (py.is h ly z) o p ∙ sym (ap (λ (m : Node). subsumes_node t (as_attr m)) z);
        }

    module _ {o : ℕ} (first : Open w a o) where
      pub subsumes_closed : (o ≡ 1 → ⊥) → Subsumes w x y false
      subsumes_closed f =
          sets (λ t u m v _ _. sym (ap (λ (p : Bool). chain p (eqb u.is_open 1) (no_dyn_or_same t.dyn u.dyn) (all (covers t u) (field_keys t.fields)))
          (ne_eqb t.is_open 1 (λ z. f (first.is m ∙ z)))))

      module _ {j : ℕ} (f : o ≡ 1) (second : Open w b j) where
        pub subsumes_shut : (j ≡ 1 → ⊥) → Subsumes w x y false
        subsumes_shut g =
            sets (λ t u m v _ _. sym (ap₂ (λ (p q : Bool). chain p q (no_dyn_or_same t.dyn u.dyn) (all (covers t u) (field_keys t.fields)))
            (eq-eqb t.is_open 1 (sym (first.is m) ∙ f)) (ne_eqb u.is_open 1 (λ z. g (second.is v ∙ z)))))

        module _ {d : Bool} (g : j ≡ 1) (dyn : DynCovers w a b d) where
          opened : {r : Bool} → ((t u : Attr) → SetAt w a t → SetAt w b u → Orderly t → Orderly u → r ≡ both d (λ _. all (covers t u) (field_keys t.fields))) → Subsumes w x y r
          opened h =
              sets (λ t u m v x y.
              h t u m v x y
              ∙ ap (λ (z : Bool). both z (λ _. all (covers t u) (field_keys t.fields))) (dyn.is m v)
              ∙ sym (ap₂ (λ (p q : Bool). chain p q (no_dyn_or_same t.dyn u.dyn) (all (covers t u) (field_keys t.fields)))
              (eq-eqb t.is_open 1 (sym (first.is m) ∙ f)) (eq-eqb u.is_open 1 (sym (second.is v) ∙ g))))

          pub subsumes_dyn : d ≡ false → Subsumes w x y d
          subsumes_dyn h = opened (λ t u m v _ _. h ∙ sym (ap (λ (z : Bool). both z (λ _. all (covers t u) (field_keys t.fields))) h))

          pub subsumes_fields : {r : Bool} → d ≡ true → FieldsCover w a b r → Subsumes w x y r
          subsumes_fields h i = opened (λ t u m v x y. i.is m v x y ∙ sym (ap (λ (z : Bool). both z (λ _. all (covers t u) (field_keys t.fields))) h))
