-- Redundant negations: the tests, the search through the members, and what is kept. Assumes nothing.
use mathlib.Core.Path.{◌≡◌, refl, sym, ap, ◌∙◌, subst}
use mathlib.Core.Bool.{Bool, true, false, not, ◌||◌}
use Prim.Native.Nat.{ℕ, ◌<◌}
use native.Mathlib.Omega.{arith}
use mathlib.Core.List.{List, [], ◌∷◌}
use lib.ListN.{length}
use borrow.Author.Tests.{eqb-true, eqb-false, eq-eqb, ne_eqb, not-true, not-false}
use Rattle.cells.specs.Part.{cell, if}
use Rattle.rules.specs.Plain.{any, all, filter, empty, both}
use Rattle.rules.specs.Types.{Node, TyVar, Primitive, ListOf, Lambda, AttrSet, Union, Intersection, Named, Neg, Bottom, Top, encode, kind_of, children, node_at}
use Rattle.rules.specs.Members.{inner_of, is_concrete, Shape, primitive_s, shape_of, primitives_below, is_output_subtype_or_equal, are_output_types_disjoint, remove_redundant_negations}
use Rattle.laws.proofs.Rows.{node_of, by_kind}
use Rattle.lang_ty.specs.declared.arena.Pass.{Pass}
use Rattle.lang_ty.specs.Nodes.{Arena, Word, Is}
use Rattle.lang_ty.specs.Shapes.{Subtype}
use Rattle.lang_ty.proofs.Words.{word_of, neg_at}
use Rattle.members.specs.declared.lists.Members.{Members}
use Rattle.members.specs.Lists.{Taken, Makes, Tests, Pairs, Beside, Sifts}
use Rattle.simplify.specs.Asked.{overlap, redundant}
use Rattle.simplify.proofs.Asking.{AnyPair, denied}
use Rattle.simplify.proofs.Cancelled.{no_inner, once}
use Rattle.members.proofs.Gathered.{all_not}
use Rattle.cells.specs.Placed.{Under}

-- of those that p keeps
sift_turn : (p q : ℕ → Bool) (x : ℕ) (xs : List ℕ) (b : Bool) → any q (filter p xs) ≡ any (λ (y : ℕ). both (p y) (λ _. q y)) xs
    → any q (if b (λ _. x ∷ filter p xs) (λ _. filter p xs)) ≡ if (both b (λ _. q x)) (λ _. true) (λ _. any (λ (y : ℕ). both (p y) (λ _. q y)) xs)
sift_turn p q x xs true h = ap (λ (t : Bool). if (q x) (λ _. true) (λ _. t)) h
sift_turn p q x xs false h = h

pub any_sift : (p q : ℕ → Bool) (xs : List ℕ) → any q (filter p xs) ≡ any (λ (y : ℕ). both (p y) (λ _. q y)) xs
any_sift p q [] = refl
any_sift p q (x ∷ xs) = sift_turn p q x xs (p x) (any_sift p q xs)

empty_turn : (c : ℕ → Bool) (x : ℕ) (xs : List ℕ) (b : Bool) → empty (filter c xs) ≡ not (any c xs)
    → empty (if b (λ _. x ∷ filter c xs) (λ _. filter c xs)) ≡ not (if b (λ _. true) (λ _. any c xs))
empty_turn c x xs true h = refl
empty_turn c x xs false h = h

empty_any : (c : ℕ → Bool) (xs : List ℕ) → empty (filter c xs) ≡ not (any c xs)
empty_any c [] = refl
empty_any c (x ∷ xs) = empty_turn c x xs (c x) (empty_any c xs)

-- `is_redundant`
module _ {w : List ℕ} {g : Members} (functor : ℕ) {x : ℕ} {b : Bool} (neg : Is w 8 x b) where
  pub redundant_not : not b ≡ true → Beside (redundant functor) w g.at g.count x false
  redundant_not e =
      record {
        is = λ {q} {ns} {xs} h m lt.
            sym (ap (any (λ (a : ℕ). all (λ (c : ℕ). are_output_types_disjoint functor ns c a) (filter (is_concrete ns) xs)))
            (no_inner (node_at ns x) (eqb-false (kind_of (node_at ns x)) 8 (sym (neg.is h lt) ∙ not-true b e))));
      }

  pub redundant_neg : {a : ℕ} {d r : Bool} → not b ≡ false → Word w x 1 a → AnyPair (overlap functor) w g 0 a d → r ≡ not d → Beside (redundant functor) w g.at g.count x r
  redundant_neg {a} {d} {r} e inner over f =
      record {
        is = λ {q} {ns} {xs} h m lt.
            let node = neg_at h lt (eqb-true (kind_of (node_at ns x)) 8 (sym (neg.is h lt) ∙ not-false b e)) inner in
            let low : a < x = (subst (λ (m : Node). Under x (children m)) (sym node) (h.below x lt)).0 in
            f ∙ ap not (over.is h m (omega arith))
            ∙ sym (all_not (λ (c : ℕ). are_output_types_disjoint functor ns c a) (filter (is_concrete ns) xs)
            ∙ ap not (any_sift (is_concrete ns) (λ (c : ℕ). not (are_output_types_disjoint functor ns c a)) xs))
            ∙ sym (once (all (λ (c : ℕ). are_output_types_disjoint functor ns c a) (filter (is_concrete ns) xs)))
            ∙ ap (λ (m : Node). any (λ (a : ℕ). all (λ (c : ℕ). are_output_types_disjoint functor ns c a) (filter (is_concrete ns) xs)) (inner_of m)) node;
      }

-- `remove_redundant_negations`
abbrev pub some_concrete : List Node → List ℕ → Bool
some_concrete ns xs = any (is_concrete ns) xs

module _ {w : List ℕ} {m : Members} (functor : ℕ) {b : Bool} (some : Tests some_concrete w m b) where
  pub removes_none : not b ≡ true → Makes (remove_redundant_negations functor) w m m
  unfolding remove_redundant_negations
  removes_none e =
      record {
        is = λ {q} {ns} {xs} h t.
            subst (λ (l : List ℕ). Taken m l (length ns))
            (sym (ap (λ (v : Bool). if v (λ _. xs) (λ _. filter (λ (y : ℕ). not (redundant functor ns xs y)) xs))
            (empty_any (is_concrete ns) xs ∙ ap not (sym (some.is h t)) ∙ e)))
            t;
      }

  pub removes_some : {r : Members} → not b ≡ false → Sifts (denied (redundant functor)) w m.at m.count m r → Makes (remove_redundant_negations functor) w m r
  unfolding remove_redundant_negations
  removes_some {r} e g =
      record {
        is = λ {q} {ns} {xs} h t.
            subst (λ (l : List ℕ). Taken r l (length ns))
            (sym (ap (λ (v : Bool). if v (λ _. xs) (λ _. filter (λ (y : ℕ). not (redundant functor ns xs y)) xs))
            (empty_any (is_concrete ns) xs ∙ ap not (sym (some.is h t)) ∙ e)))
            (g.is h t t);
      }

-- `is_output_subtype_or_equal`: only a primitive lies below, and below a primitive
below_first : (n : Node) (t : Shape) → (kind_of n ≡ 1 → ⊥) → primitives_below (shape_of n) t ≡ false
below_first (TyVar a) t h = refl
below_first (Primitive c) t h = absurd (h refl)
below_first (ListOf a) t h = refl
below_first (Lambda a b) t h = refl
below_first (AttrSet a) t h = refl
below_first (Union ms) t h = refl
below_first (Intersection ms) t h = refl
below_first (Named m a) t h = refl
below_first (Neg a) t h = refl
below_first Bottom t h = refl
below_first Top t h = refl

below_second : (c : ℕ) (n : Node) → (kind_of n ≡ 1 → ⊥) → primitives_below (primitive_s c) (shape_of n) ≡ false
below_second c (TyVar a) h = refl
below_second c (Primitive d) h = absurd (h refl)
below_second c (ListOf a) h = refl
below_second c (Lambda a b) h = refl
below_second c (AttrSet a) h = refl
below_second c (Union ms) h = refl
below_second c (Intersection ms) h = refl
below_second c (Named m a) h = refl
below_second c (Neg a) h = refl
below_second c Bottom h = refl
below_second c Top h = refl

primitive_at : {w : List ℕ} {q : Pass} {ns : List Node} {x r : ℕ} → Arena w q ns → x < length ns → kind_of (node_at ns x) ≡ 1 → Word w x 1 r → Primitive r ≡ node_at ns x
primitive_at {ns = ns} {x = x} a lt kind inner =
    ap Primitive (word_of a inner lt (by_kind (node_at ns x) (λ (m : Node). 1 < length (encode m)) 1 kind (omega arith))) ∙ node_of (node_at ns x) 1 kind

module _ {w : List ℕ} {a b : ℕ} where
  pub below_equal : a ≡ b → Pairs is_output_subtype_or_equal w a b true
  unfolding is_output_subtype_or_equal
  below_equal e =
      record { is = λ {q} {ns} h la lb. sym (ap (λ (t : Bool). t || primitives_below (shape_of (node_at ns a)) (shape_of (node_at ns b))) (eq-eqb a b e)) }

  module _ {i : Bool} (differ : a ≡ b → ⊥) (first : Is w 1 a i) where
    by_primitives : {r : Bool} → ((q : Pass) (ns : List Node) → Arena w q ns → a < length ns → b < length ns → r ≡ primitives_below (shape_of (node_at ns a)) (shape_of (node_at ns b)))
        → Pairs is_output_subtype_or_equal w a b r
    unfolding is_output_subtype_or_equal
    by_primitives g =
        record {
          is = λ {q} {ns} h la lb.
              g q ns h la lb ∙ sym (ap (λ (t : Bool). t || primitives_below (shape_of (node_at ns a)) (shape_of (node_at ns b))) (ne_eqb a b differ));
        }

    pub below_not : not i ≡ true → Pairs is_output_subtype_or_equal w a b false
    below_not e =
        by_primitives (λ q ns h la lb.
        sym (below_first (node_at ns a) (shape_of (node_at ns b)) (eqb-false (kind_of (node_at ns a)) 1 (sym (first.is h la) ∙ not-true i e))))

    module _ {j : Bool} (e : not i ≡ false) (second : Is w 1 b j) where
      pub below_neither : not j ≡ true → Pairs is_output_subtype_or_equal w a b false
      below_neither f =
          by_primitives (λ q ns h la lb.
          let one = node_of (node_at ns a) 1 (eqb-true (kind_of (node_at ns a)) 1 (sym (first.is h la) ∙ not-false i e)) in
          sym (below_second (cell (encode (node_at ns a)) 1) (node_at ns b) (eqb-false (kind_of (node_at ns b)) 1 (sym (second.is h lb) ∙ not-true j f)))
          ∙ ap (λ (n : Node). primitives_below (shape_of n) (shape_of (node_at ns b))) one)

      pub below_primitives : {x y : ℕ} {r : Bool} → not j ≡ false → Word w a 1 x → Word w b 1 y → Subtype x y r → Pairs is_output_subtype_or_equal w a b r
      below_primitives {x} {y} f wa wb g =
          by_primitives (λ q ns h la lb.
          let one : Primitive x ≡ node_at ns a = primitive_at h la (eqb-true (kind_of (node_at ns a)) 1 (sym (first.is h la) ∙ not-false i e)) wa in
          let two : Primitive y ≡ node_at ns b = primitive_at h lb (eqb-true (kind_of (node_at ns b)) 1 (sym (second.is h lb) ∙ not-false j f)) wb in
          g.is ∙ ap (λ (n : Node). primitives_below (shape_of n) (primitive_s y)) one ∙ ap (λ (n : Node). primitives_below (shape_of (node_at ns a)) (shape_of n)) two)
