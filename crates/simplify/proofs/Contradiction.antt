-- Contradictions among the members: one that a negation takes, and two that are disjoint. Assumes nothing.
use mathlib.Core.Path.{◌≡◌, refl, sym, ap, ap₂, ◌∙◌, subst}
use mathlib.Core.Bool.{Bool, true, false, not}
use Prim.Native.Nat.{ℕ, suc, ◌+◌, ◌≤◌, ◌<◌}
use native.Mathlib.Omega.{arith}
use native.Mathlib.Numerals.{add-one}
use mathlib.Core.List.{List, [], ◌∷◌}
use lib.ListN.{length, get_or, drop, drop_of_length-le}
use lib.Seq.{drop-cons}
use lib.Dec.{eqb}
use borrow.Author.Tests.{eqb-true, eqb-false, ne_eqb, not-true}
use Rattle.cells.specs.Part.{cell, if}
use Rattle.rules.specs.Plain.{any, filter, both}
use Rattle.rules.specs.Types.{Node, kind_of, children, node_at, is}
use Rattle.rules.specs.Members.{inner_of, is_positive, is_output_subtype_or_equal, are_output_types_disjoint, all_same_non_primitive, disjoint_pair}
use Rattle.rules.specs.Members.{subsumed_by_negation, has_type_contradiction}
use Rattle.lang_ty.specs.declared.arena.Pass.{Pass}
use Rattle.lang_ty.specs.Nodes.{Arena, Word, Kind, Is}
use Rattle.lang_ty.specs.Shapes.{Disjoint}
use Rattle.members.specs.declared.lists.Members.{Members}
use Rattle.members.specs.Lists.{Taken, Makes, Tests, Asks, Pairs, Beside, any_of_kind, of_kind, sift}
use Rattle.simplify.specs.Asked.{negated_by, negated, subsumed, other_kind}
use Rattle.simplify.proofs.Asking.{AnyPair, AnyBeside}
use Rattle.members.proofs.Gathered.{few_at, few_below, all_not}
use Rattle.simplify.proofs.Cancelled.{inners_any, no_inner, inners_kept, no_inners, once}
use Rattle.simplify.proofs.Redundant.{any_sift}
use Rattle.lang_ty.proofs.Words.{neg_at}
use Rattle.cells.specs.Placed.{Under}

-- `is_negated_by` and `is_negated`
module _ {w : List ℕ} {x m : ℕ} {b : Bool} (neg : Is w 8 m b) where
  pub negated_not : b ≡ false → Pairs negated_by w x m b
  negated_not e =
      record {
        is = λ {q} {ns} h lx lm.
            e ∙ sym (ap (any (is_output_subtype_or_equal ns x)) (no_inner (node_at ns m) (eqb-false (kind_of (node_at ns m)) 8 (sym (neg.is h lm) ∙ e))));
      }

  pub negated_is : {a : ℕ} {r : Bool} → b ≡ true → Word w m 1 a → Pairs is_output_subtype_or_equal w x a r → Pairs negated_by w x m r
  negated_is {a} {r} e inner g =
      record {
        is = λ {q} {ns} h lx lm.
            let node = neg_at h lm (eqb-true (kind_of (node_at ns m)) 8 (sym (neg.is h lm) ∙ e)) inner in
            let low : a < m = (subst (λ (k : Node). Under m (children k)) (sym node) (h.below m lm)).0 in
            g.is h lx (omega arith)
            ∙ sym (once (is_output_subtype_or_equal ns x a))
            ∙ ap (λ (k : Node). any (is_output_subtype_or_equal ns x) (inner_of k)) node;
      }

pub negated_any : {w : List ℕ} {g : Members} {x : ℕ} {r : Bool} → AnyPair negated_by w g 0 x r → Beside negated w g.at g.count x r
negated_any {x = x} c = record { is = λ {q} {ns} {xs} h m l. c.is h m l ∙ sym (inners_any ns xs (is_output_subtype_or_equal ns x)) }

-- two nodes, and a node of another kind
pub pair_disjoint : {w : List ℕ} {functor x y : ℕ} {r : Bool} → Disjoint w functor x y r → Pairs (are_output_types_disjoint functor) w x y r
pair_disjoint g = record { is = λ h lx ly. g.is h lx ly }

pub of_other : {w : List ℕ} {k x : ℕ} {b d : Bool} → Is w k x d → b ≡ not d → Asks (of_kind k false) w x b
of_other g e = record { is = λ h lt. e ∙ ap not (g.is h lt) }

-- `any_subsumed`: where no member is a Neg, and by what the Negs hold
abbrev subsumed_by : List Node → List ℕ → List ℕ → Bool
subsumed_by ns negs xs = any (λ (p : ℕ). any (is_output_subtype_or_equal ns p) negs) (filter (is_positive ns) xs)

any_none : (xs : List ℕ) → any (λ (x : ℕ). false) xs ≡ false
any_none [] = refl
any_none (x ∷ xs) = any_none xs

module _ {w : List ℕ} {m : Members} where
  pub subsumed_none : {b : Bool} → Tests (any_of_kind 8) w m b → not b ≡ true → Tests subsumed_by_negation w m false
  subsumed_none {b} g e =
      record {
        is = λ {q} {ns} {xs} h t.
            sym (ap (λ (l : List ℕ). subsumed_by ns l xs) (no_inners ns xs (sym (g.is h t) ∙ not-true b e)) ∙ any_none (filter (is_positive ns) xs));
      }

  pub subsumed_some : {negs : Members} {r : Bool} → Makes (sift (of_kind 8 true)) w m negs → AnyBeside subsumed w m negs r
      → Tests subsumed_by_negation w m r
  subsumed_some g some =
      record {
        is = λ {q} {ns} {xs} h t.
            some.is h t (g.is h t)
            ∙ sym (any_sift (is_positive ns) (negated ns (filter (is ns 8) xs)) xs)
            ∙ ap (λ (l : List ℕ). subsumed_by ns l xs) (inners_kept ns xs);
      }

-- `all_same_non_primitive`, by the first
same_first : (ns : List Node) (xs : List ℕ) (x : ℕ) → (length xs ≡ 0 → ⊥) → x ≡ get_or xs 0 0
    → both (not (is ns 1 x)) (λ _. not (any (other_kind ns x) (drop 1 xs))) ≡ all_same_non_primitive ns xs
same_first ns [] x f e = absurd (f refl)
same_first ns (y ∷ ys) x f e =
    ap (λ (z : ℕ). both (not (is ns 1 z)) (λ _. not (any (other_kind ns z) ys))) e
    ∙ ap (λ (v : Bool). both (not (is ns 1 y)) (λ _. v)) (sym (all_not (is ns (kind_of (node_at ns y))) ys))

-- whether one of those from the second on is of another kind
abbrev pub others : ℕ → List Node → List ℕ → Bool
others k ns xs = any (of_kind k false ns) (drop 1 xs)

module _ {w : List ℕ} {m : Members} where
  module _ {x k : ℕ} (some : m.count ≡ 0 → ⊥) (first : x ≡ cell m.at 0) (kind : Kind w x k) where
    same_by : {q : Pass} {ns : List Node} {xs : List ℕ} → Arena w q ns → Taken m xs (length ns) → both (not (eqb k 1)) (λ _. not (others k ns xs)) ≡ all_same_non_primitive ns xs
    same_by {ns = ns} {xs = xs} h t =
        let lt : 0 < m.count = omega (arith, some) in
        ap (λ (j : ℕ). both (not (eqb j 1)) (λ _. not (others j ns xs))) (kind.is h (few_below t first lt))
        ∙ same_first ns xs x (λ z. some (t.list.count ∙ z)) (few_at t.list first lt)

    pub same_others : {d r : Bool} → (k ≡ 1 → ⊥) → Tests (others k) w m d → r ≡ not d → Tests all_same_non_primitive w m r
    same_others e g z =
        record { is = λ {q} {ns} {xs} h t. z ∙ ap not (g.is h t) ∙ sym (ap (λ (v : Bool). both (not v) (λ _. not (others k ns xs))) (ne_eqb k 1 e)) ∙ same_by h t }

-- whether two are disjoint is left to the members from i on
pub record Pairing (functor : ℕ) (w : List ℕ) (m : Members) (i : ℕ) : Type 0 where
  pub few : i ≤ m.count
  pub is : {q : Pass} {ns : List Node} {xs : List ℕ} → Arena w q ns → Taken m xs (length ns) → disjoint_pair functor ns (drop i xs) ≡ disjoint_pair functor ns xs

module _ {functor : ℕ} {w : List ℕ} {m : Members} where
  module _ {i x : ℕ} {b : Bool} (c : Pairing functor w m i) (lt : i < m.count) (e : x ≡ cell m.at i)
      (g : AnyPair (are_output_types_disjoint functor) w m (i + 1) x b) where
    pair_turn : {q : Pass} {ns : List Node} {xs : List ℕ} → Arena w q ns → Taken m xs (length ns)
        → if b (λ _. true) (λ _. disjoint_pair functor ns (drop (suc i) xs)) ≡ disjoint_pair functor ns xs
    pair_turn {ns = ns} {xs = xs} h t =
        ap (λ (v : Bool). if v (λ _. true) (λ _. disjoint_pair functor ns (drop (suc i) xs)))
        (g.is h t (few_below t e lt)
        ∙ ap₂ (λ (y j : ℕ). any (are_output_types_disjoint functor ns y) (drop j xs)) (few_at t.list e lt) (add-one i))
        ∙ sym (ap (disjoint_pair functor ns) (drop-cons xs i 0 (omega (arith, t.list.count))))
        ∙ c.is h t

    pub pairing_here : b ≡ true → Tests (disjoint_pair functor) w m true
    pairing_here z =
        record {
          is = λ {q} {ns} {xs} h t.
              ap (λ (v : Bool). if v (λ _. true) (λ _. disjoint_pair functor ns (drop (suc i) xs))) (sym z) ∙ pair_turn h t;
        }

    pub pairing_more : b ≡ false → Pairing functor w m (i + 1)
    pairing_more z =
        record {
          few = omega arith;
          is = λ {q} {ns} {xs} h t.
              ap (λ (j : ℕ). disjoint_pair functor ns (drop j xs)) (add-one i)
              ∙ ap (λ (v : Bool). if v (λ _. true) (λ _. disjoint_pair functor ns (drop (suc i) xs))) (sym z)
              ∙ pair_turn h t;
        }

  pub pairing_done : {i : ℕ} → Pairing functor w m i → m.count ≤ i → Tests (disjoint_pair functor) w m false
  pairing_done {i} c le =
      record { is = λ {q} {ns} {xs} h t. sym (ap (disjoint_pair functor ns) (drop_of_length-le xs {i = i} (omega (arith, t.list.count)))) ∙ c.is h t }

-- the ways of `has_type_contradiction`
abbrev verdict : Bool → Bool → Bool → Bool
verdict a b c = if a (λ _. true) (λ _. both (not b) (λ _. c))

module _ (functor : ℕ) {w : List ℕ} {m : Members} {a : Bool} (taken : Tests subsumed_by_negation w m a) where
  pub contradicts_taken : a ≡ true → Tests (has_type_contradiction functor) w m true
  unfolding has_type_contradiction
  contradicts_taken e =
      record {
        is = λ {q} {ns} {xs} h t.
            let ps = filter (is_positive ns) xs in
            ap (λ (v : Bool). verdict v (all_same_non_primitive ns ps) (disjoint_pair functor ns ps)) (sym e ∙ taken.is h t);
      }

  module _ {p : Members} {b : Bool} (e : a ≡ false) (positives : Makes (sift is_positive) w m p) (same : Tests all_same_non_primitive w p b) where
    pub contradicts_not : b ≡ true → Tests (has_type_contradiction functor) w m (not b)
    unfolding has_type_contradiction
    contradicts_not f =
        record {
          is = λ {q} {ns} {xs} h t.
              let ps = filter (is_positive ns) xs in
              ap not f ∙ ap₂ (λ (u v : Bool). verdict u v (disjoint_pair functor ns ps)) (sym e ∙ taken.is h t) (sym f ∙ same.is h (positives.is h t));
        }

    pub contradicts_pair : {r : Bool} → b ≡ false → Tests (disjoint_pair functor) w p r → Tests (has_type_contradiction functor) w m r
    unfolding has_type_contradiction
    contradicts_pair {r} f g =
        record {
          is = λ {q} {ns} {xs} h t.
              let ps = filter (is_positive ns) xs in
              g.is h (positives.is h t)
              ∙ ap₂ (λ (u v : Bool). verdict u v (disjoint_pair functor ns ps)) (sym e ∙ taken.is h t) (sym f ∙ same.is h (positives.is h t));
        }
