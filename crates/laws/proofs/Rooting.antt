-- What every step but a visit gives: numbers of nodes, in a state whose nodes' children are below them. Assumes nothing.
use mathlib.Core.Path.{◌≡◌, refl, sym, ap, subst}
use mathlib.Core.Bool.{Bool, true, false, not, ◌||◌}
use Prim.Native.Nat.{ℕ, zero, suc, ◌≤◌, ◌<◌}
use native.Mathlib.Omega.{arith}
use mathlib.Core.List.{List, [], ◌∷◌, ◌++◌}
use lib.ListN.{length, length-append, get_or-eq_default}
use lib.Dec.{eqb, ltb}
use borrow.Author.Tests.{ltb-true, ltb-false}
use Rattle.cells.specs.Part.{if}
use Rattle.rules.specs.Plain.{filter, any, all, contains, empty, add_new, both}
use Rattle.rules.specs.Ceilings.{most_members}
use Rattle.rules.specs.Table.{Field, Attr, field_types, dyn_ids, attr_kids}
use Rattle.rules.specs.Order.{is_greater, order, insert, sort_into, sort}
use Rattle.rules.specs.Types.{Node, TyVar, Primitive, ListOf, Lambda, AttrSet, Union, Intersection, Named, Neg, Bottom, Top, members, as_attr, children, State, ok, Run}
use Rattle.rules.specs.Types.{◌>>=◌, give, refuse, node_at, is, store, limit, ty_var_kind, attr_set_kind, union_kind, bottom_kind}
use Rattle.rules.specs.Members.{members_at, negated_inners, without, add_all, flatten_one, flatten_into, flatten_composite, remove_tautological_pairs, left, taken_up}
use Rattle.rules.specs.Members.{absorb_subsumed_union_members, is_concrete, remove_redundant_negations, spared, takes_some, meet_types, merge_field, merge_fields, merge_dyn}
use Rattle.rules.specs.Members.{merge_attrs, attr_of, attrs_of, merged, merge_attrset_intersection, sole, simplify_one, simplify_each, simplify_union_neg_intersection}
use Rattle.rules.specs.Members.{mark_sorted, remainders, factored, factor_unions, factor_shared_from_intersection, each, negate_node, negate_by, negate_output_ty}
use Rattle.rules.specs.Canonicalizer.{Pass, variable, flattened, composite, settle, top_if_emptied, preserving, first_member, inter_normalized, inter_rest, union_normalized}
use Rattle.rules.specs.declared.Polarity.{Polarity}
use Rattle.rules.specs.declared.Polarity.TheVariants.{Positive, Negative}
use Rattle.laws.proofs.Storing.{Rooted, store_keeps}
use Rattle.laws.proofs.Keeping.{parted, gave, refused_not}
use Rattle.laws.proofs.Filtering.{under_front, under_back, under_both, under_added, filter_under, under_most, under_new}
use Rattle.cells.specs.Placed.{Under}
use mathlib.Core.Option.{Option, none, some}

-- of each of these
abbrev pub All : (ℕ → Type 0) → List ℕ → Type 0
All P [] = Unit {0}
All P (x ∷ xs) = P x × All P xs

module _ (P : ℕ → Type 0) where
  pub all_join : (xs ys : List ℕ) → All P xs → All P ys → All P (xs ++ ys)
  all_join [] ys h k = k
  all_join (x ∷ xs) ys h k = (h.0, all_join xs ys h.1 k)

  module _ (p : ℕ → Bool) where
    sieve_turn : (b : Bool) (x : ℕ) (xs : List ℕ) → P x → All P (filter p xs) → All P (if b (λ _. x ∷ filter p xs) (λ _. filter p xs))
    sieve_turn true x xs h k = (h, k)
    sieve_turn false x xs h k = k

    pub all_sieve : (xs : List ℕ) → All P xs → All P (filter p xs)
    all_sieve [] h = tt
    all_sieve (x ∷ xs) h = sieve_turn (p x) x xs h.0 (all_sieve xs h.1)

  new_turn : (b : Bool) (got : List ℕ) (x : ℕ) → All P got → P x → All P (if b (λ _. got) (λ _. got ++ (x ∷ [])))
  new_turn true got x h k = h
  new_turn false got x h k = all_join got (x ∷ []) h (k, tt)

  pub all_new : (got : List ℕ) (x : ℕ) → All P got → P x → All P (add_new got x)
  all_new got x h k = new_turn (contains got x) got x h k

  pub all_added : (got xs : List ℕ) → All P got → All P xs → All P (add_all got xs)
  all_added got [] h k = h
  all_added got (x ∷ xs) h k = all_added (add_new got x) xs (all_new got x h k.0) k.1

-- lists of numbers below k
module _ (k : ℕ) where
  -- those whose places are not gone
  left_turn : (b : Bool) (m : ℕ) (rest : List ℕ) → m < k → Under k rest → Under k (if b (λ _. rest) (λ _. m ∷ rest))
  left_turn true m rest h u = u
  left_turn false m rest h u = (h, u)

  under_left : (gone : List ℕ) (i : ℕ) (ms : List ℕ) → Under k ms → Under k (left gone i ms)
  under_left gone i [] u = tt
  under_left gone i (m ∷ ms) u = left_turn (contains gone i) m (left gone (suc i) ms) u.0 (under_left gone (suc i) ms u.1)

  pub under_absorbed : (ns : List Node) (ms : List ℕ) → Under k ms → Under k (absorb_subsumed_union_members ns ms)
  unfolding absorb_subsumed_union_members
  under_absorbed ns ms u = under_left (taken_up ns ms [] 0 ms) 0 ms u

  pub under_cancelled : (ns : List Node) (ms : List ℕ) → Under k ms → Under k (remove_tautological_pairs ns ms)
  unfolding remove_tautological_pairs
  under_cancelled ns ms u = filter_under _ k ms u

  needed_turn : (b : Bool) (p : ℕ → Bool) (ms : List ℕ) → Under k ms → Under k (if b (λ _. ms) (λ _. filter p ms))
  needed_turn true p ms u = u
  needed_turn false p ms u = filter_under p k ms u

  pub under_needed : (functor : ℕ) (ns : List Node) (ms : List ℕ) → Under k ms → Under k (remove_redundant_negations functor ns ms)
  unfolding remove_redundant_negations
  under_needed functor ns ms u = needed_turn (empty (filter (is_concrete ns) ms)) _ ms u

  -- sorted
  insert_turn : (b : Bool) (x y : ℕ) (ys rest : List ℕ) → x < k → Under k (y ∷ ys) → Under k rest → Under k (if b (λ _. x ∷ y ∷ ys) (λ _. y ∷ rest))
  insert_turn true x y ys rest h u v = (h, u)
  insert_turn false x y ys rest h u v = (u.0, v)

  under_insert : (ns : List Node) (x : ℕ) (ys : List ℕ) → x < k → Under k ys → Under k (insert ns x ys)
  under_insert ns x [] h u = (h, tt)
  under_insert ns x (y ∷ ys) h u = insert_turn (is_greater (order (length ns) ns y x)) x y ys (insert ns x ys) h u (under_insert ns x ys h u.1)

  under_sorts : (ns : List Node) (got xs : List ℕ) → Under k got → Under k xs → Under k (sort_into ns got xs)
  under_sorts ns got [] u v = u
  under_sorts ns got (x ∷ xs) u v = under_sorts ns (insert ns x got) xs (under_insert ns x got v.0 u) v.1

  under_sort : (ns : List Node) (xs : List ℕ) → Under k xs → Under k (sort ns xs)
  unfolding sort
  under_sort ns xs u = under_sorts ns [] xs tt u

  pub members_children : (n : Node) → Under k (children n) → Under k (members n)
  members_children (TyVar x) u = tt
  members_children (Primitive c) u = tt
  members_children (ListOf a) u = tt
  members_children (Lambda a b) u = tt
  members_children (AttrSet a) u = tt
  members_children (Union ms) u = u
  members_children (Intersection ms) u = u
  members_children (Named n a) u = tt
  members_children (Neg a) u = tt
  members_children Bottom u = tt
  members_children Top u = tt

-- children of any node are nodes
children_turn : (ns : List Node) (m : ℕ) (b : Bool) → ltb m (length ns) ≡ b → Rooted ns → Under (length ns) (children (node_at ns m))
children_turn ns m true e r = let lt = ltb-true m (length ns) e in under_most _ _ (children (node_at ns m)) (omega arith) (r.is m lt)
children_turn ns m false e r = subst (λ (n : Node). Under (length ns) (children n)) (sym (get_or-eq_default ns Bottom (ltb-false m (length ns) e))) tt

children_below : (ns : List Node) (m : ℕ) → Rooted ns → Under (length ns) (children (node_at ns m))
children_below ns m r = children_turn ns m (ltb m (length ns)) refl r

pub members_below : (ns : List Node) (m : ℕ) → Rooted ns → Under (length ns) (members_at ns m)
members_below ns m r = members_children (length ns) (node_at ns m) (children_below ns m r)

-- flattening
module _ (k : ℕ) (ns : List Node) (r : Rooted ns) where
  flat_turn : (b : Bool) (got : List ℕ) (m : ℕ) → Under (length ns) got → m < length ns
      → Under (length ns) (if b (λ _. add_all got (members_at ns m)) (λ _. add_new got m))
  flat_turn true got m u h = under_added (length ns) got (members_at ns m) u (members_below ns m r)
  flat_turn false got m u h = under_new (length ns) got m u h

  flat_into : (got ms : List ℕ) → Under (length ns) got → Under (length ns) ms → Under (length ns) (flatten_into k ns got ms)
  flat_into got [] u v = u
  flat_into got (m ∷ ms) u v = flat_into (flatten_one k ns got m) ms (flat_turn (is ns k m) got m u v.0) v.1

  flatten_turn : (b : Bool) (ms : List ℕ) → Under (length ns) ms → Under (length ns) (if b (λ _. ms) (λ _. flatten_into k ns [] ms))
  flatten_turn true ms u = u
  flatten_turn false ms u = flat_into [] ms tt u

  flatten_below : (ms : List ℕ) → Under (length ns) ms → Under (length ns) (flatten_composite k ns ms)
  unfolding flatten_composite
  flatten_below ms u = flatten_turn (both (not (any (is ns k) ms)) (λ _. ltb 64 (length ms))) ms u

-- what a step gives: Q of the nodes after it, whose children are below them
pub record Rooting {A : Type 0} (Q : ℕ → A → Type 0) (st : State) (a : A) (st' : State) : Type 0 where
  pub grows : length st.nodes ≤ length st'.nodes
  pub rooted : Rooted st'.nodes
  pub fact : Q (length st'.nodes) a

abbrev pub Roots : {A : Type 0} → (ℕ → A → Type 0) → Run A → State → Type 0
Roots {A} Q m st = (a : A) (st' : State) → m st ≡ ok a st' → Rooting Q st a st'

-- a node; nodes
abbrev pub Below : ℕ → ℕ → Type 0
Below k x = x < k

abbrev pub AllBelow : ℕ → List ℕ → Type 0
AllBelow k xs = Under k xs

roots_give : {A : Type 0} (Q : ℕ → A → Type 0) (a : A) (st : State) → Rooted st.nodes → Q (length st.nodes) a → Roots Q (give a) st
roots_give Q a st r q b st' e = gave (Rooting Q st) e (record { grows = omega arith; rooted = r; fact = q })

roots_bind : {A B : Type 0} (P : ℕ → A → Type 0) (Q : ℕ → B → Type 0) (m : Run A) (f : A → Run B) (st : State) → Roots P m st
    → ((a : A) (s : State) → length st.nodes ≤ length s.nodes → Rooted s.nodes → P (length s.nodes) a → Roots Q (f a) s) → Roots Q (m >>= f) st
roots_bind P Q m f st k l b st' e =
    let c = parted m f st b st' e in
    let g = k c.value c.between c.first in
    let h = l c.value c.between g.grows g.rooted g.fact b st' c.second in
    record { grows = omega (arith, g.grows, h.grows); rooted = h.rooted; fact = h.fact }

roots_if : {A : Type 0} (Q : ℕ → A → Type 0) (b : Bool) (x y : Unit {0} → Run A) (st : State) → Roots Q (x tt) st → Roots Q (y tt) st → Roots Q (if b x y) st
roots_if Q true x y st k l = k
roots_if Q false x y st k l = l

pub roots_store : (n : Node) (st : State) → Rooted st.nodes → Under (length st.nodes) (children n) → Roots Below (store n) st
roots_store n st r u x st' e =
    let k = store_keeps n st x st' e in
    record { grows = omega (arith, ap length k.grows.nodes, length-append st.nodes k.grows.more); rooted = k.rooted u r; fact = k.below }

limit_turn : (b : Bool) (xs : List ℕ) (st : State) → Rooted st.nodes → Under (length st.nodes) xs → Roots AllBelow (if b (λ _. refuse 7) (λ _. give xs)) st
limit_turn true xs st r u ys st' e = refused_not e
limit_turn false xs st r u ys st' e = roots_give AllBelow xs st r u ys st' e

roots_limit : (xs : List ℕ) (st : State) → Rooted st.nodes → Under (length st.nodes) xs → Roots AllBelow (limit xs) st
unfolding limit
roots_limit xs st r u = limit_turn (ltb most_members (length xs)) xs st r u

-- the children of a wrapped list are its members
abbrev pub Wraps : (List ℕ → Node) → Type 0
Wraps wrap = (k : ℕ) (xs : List ℕ) → Under k xs → Under k (children (wrap xs))

roots_sole : (wrap : List ℕ → Node) → Wraps wrap → (xs : List ℕ) (st : State) → Rooted st.nodes → Under (length st.nodes) xs → Roots AllBelow (sole wrap xs) st
roots_sole wrap w [] st r u = roots_give AllBelow [] st r u
roots_sole wrap w (x ∷ []) st r u = roots_give AllBelow (x ∷ []) st r u
roots_sole wrap w (x ∷ y ∷ xs) st r u =
    roots_bind Below AllBelow (store (wrap (x ∷ y ∷ xs))) _ st (roots_store (wrap (x ∷ y ∷ xs)) st r (w (length st.nodes) (x ∷ y ∷ xs) u))
    (λ z s g r h. roots_give AllBelow (z ∷ []) s r (h, tt))

roots_union : (xs : List ℕ) (st : State) → Rooted st.nodes → Under (length st.nodes) xs → Roots AllBelow (sole Union xs) st
roots_union xs st r u = roots_sole Union (λ k ys v. v) xs st r u

roots_intersection : (xs : List ℕ) (st : State) → Rooted st.nodes → Under (length st.nodes) xs → Roots AllBelow (sole Intersection xs) st
roots_intersection xs st r u = roots_sole Intersection (λ k ys v. v) xs st r u

-- simplifying
roots_simplify_one : (negs : List ℕ) (m : ℕ) (st : State) → Rooted st.nodes → m < length st.nodes → Roots AllBelow (simplify_one negs m) st
roots_simplify_one negs m st r h =
    roots_if AllBelow (is st.nodes union_kind m) _ _ st
    (roots_union (spared st.nodes negs m) st r (filter_under _ (length st.nodes) (members_at st.nodes m) (members_below st.nodes m r)))
    (roots_give AllBelow (m ∷ []) st r (h, tt))

roots_simplify_each : (negs ms : List ℕ) (st : State) → Rooted st.nodes → Under (length st.nodes) ms → Roots AllBelow (simplify_each negs ms) st
roots_simplify_each negs [] st r u = roots_give AllBelow [] st r tt
roots_simplify_each negs (m ∷ ms) st r u =
    roots_bind AllBelow AllBelow (simplify_one negs m) _ st (roots_simplify_one negs m st r u.0)
    (λ x s g r v. roots_bind AllBelow AllBelow (simplify_each negs ms) _ s (roots_simplify_each negs ms s r (under_most _ _ ms g u.1))
    (λ xs z h r w. roots_give AllBelow (x ++ xs) z r (under_both (length z.nodes) x xs (under_most _ _ x h v) w)))

pub roots_simplify : (functor : ℕ) (ms : List ℕ) (st : State) → Rooted st.nodes → Under (length st.nodes) ms → Roots AllBelow (simplify_union_neg_intersection functor ms) st
unfolding simplify_union_neg_intersection
roots_simplify functor ms st r u =
    let negs = negated_inners st.nodes ms in
    roots_if AllBelow (empty negs) _ _ st (roots_give AllBelow ms st r u)
    (roots_if AllBelow (not (any (is st.nodes union_kind) ms)) _ _ st
    (roots_give AllBelow (remove_redundant_negations functor st.nodes ms) st r (under_needed (length st.nodes) functor st.nodes ms u))
    (roots_bind AllBelow AllBelow (simplify_each negs ms) _ st (roots_simplify_each negs ms st r u)
    (λ xs s g r v. roots_if AllBelow (any (takes_some st.nodes negs) ms) _ _ s
    (roots_give AllBelow _ s r (under_needed (length s.nodes) functor s.nodes (filter (λ (m : ℕ). not (is s.nodes bottom_kind m)) xs) (filter_under _ (length s.nodes) xs v)))
    (roots_give AllBelow xs s r v))))

-- factoring
roots_mark : (xs : List ℕ) (st : State) → Rooted st.nodes → Roots (λ k _. Unit {0}) (mark_sorted xs) st
roots_mark xs st r b st' e = gave (Rooting (λ k _. Unit {0}) st) e (record { grows = omega arith; rooted = record { is = r.is }; fact = tt })

roots_remainders : (shared us : List ℕ) (st : State) → Rooted st.nodes → Roots AllBelow (remainders shared us) st
roots_remainders shared [] st r = roots_give AllBelow [] st r tt
roots_remainders shared (u ∷ us) st r =
    roots_bind AllBelow AllBelow (sole Union (without shared (members_at st.nodes u))) _ st
    (roots_union (without shared (members_at st.nodes u)) st r (filter_under _ (length st.nodes) (members_at st.nodes u) (members_below st.nodes u r)))
    (λ x s g r v. roots_bind AllBelow AllBelow (remainders shared us) _ s (roots_remainders shared us s r)
    (λ xs z h r w. roots_give AllBelow (x ++ xs) z r (under_both (length z.nodes) x xs (under_most _ _ x h v) w)))

roots_factored : (others us shared : List ℕ) (st : State) → Rooted st.nodes → Under (length st.nodes) others → Under (length st.nodes) us
    → Under (length st.nodes) shared → Roots AllBelow (factored others us shared) st
roots_factored others us [] st r o u d = roots_give AllBelow (others ++ us) st r (under_both (length st.nodes) others us o u)
roots_factored others us (x ∷ xs) st r o u d =
    roots_bind AllBelow AllBelow (remainders (x ∷ xs) us) _ st (roots_remainders (x ∷ xs) us st r)
    (λ rests s g r v. roots_bind (λ k _. Unit {0}) AllBelow (mark_sorted (sort s.nodes (x ∷ xs))) _ s (roots_mark (sort s.nodes (x ∷ xs)) s r)
    (λ _ z h r _. roots_bind AllBelow AllBelow (sole Intersection (rests ++ others)) _ z
    (roots_intersection (rests ++ others) z r (under_both (length z.nodes) rests others (under_most _ _ rests h v) (under_most _ _ others (omega arith) o)))
    (λ inner y i r w. roots_union (sort s.nodes (x ∷ xs) ++ inner) y r
    (under_both (length y.nodes) (sort s.nodes (x ∷ xs)) inner
    (under_sort (length y.nodes) s.nodes (x ∷ xs) (under_most _ _ (x ∷ xs) (omega arith) d)) w))))

roots_factor_unions : (others us : List ℕ) (st : State) → Rooted st.nodes → Under (length st.nodes) others → Under (length st.nodes) us
    → Roots AllBelow (factor_unions others us) st
roots_factor_unions others [] st r o u = roots_give AllBelow others st r o
roots_factor_unions others (u ∷ []) st r o v =
    roots_bind AllBelow AllBelow (sole Union (members_at st.nodes u)) _ st (roots_union (members_at st.nodes u) st r (members_below st.nodes u r))
    (λ x s g r w. roots_give AllBelow (others ++ x) s r (under_both (length s.nodes) others x (under_most _ _ others g o) w))
roots_factor_unions others (u ∷ w ∷ us) st r o v =
    roots_factored others (u ∷ w ∷ us) (filter (λ (m : ℕ). all (λ (z : ℕ). contains (members_at st.nodes z) m) (w ∷ us)) (members_at st.nodes u)) st r o v
    (filter_under _ (length st.nodes) (members_at st.nodes u) (members_below st.nodes u r))

pub roots_factor : (ms : List ℕ) (st : State) → Rooted st.nodes → Under (length st.nodes) ms → Roots AllBelow (factor_shared_from_intersection ms) st
unfolding factor_shared_from_intersection
roots_factor ms st r u =
    roots_factor_unions (filter (λ (m : ℕ). not (is st.nodes union_kind m)) ms) (filter (is st.nodes union_kind) ms) st r
    (filter_under _ (length st.nodes) ms u) (filter_under _ (length st.nodes) ms u)

-- negation
module _ (f : ℕ → Run ℕ) (k : (m : ℕ) (st : State) → Rooted st.nodes → m < length st.nodes → Roots Below (f m) st) where
  roots_each : (ms : List ℕ) (st : State) → Rooted st.nodes → Under (length st.nodes) ms → Roots AllBelow (each f ms) st
  roots_each [] st r u = roots_give AllBelow [] st r tt
  roots_each (m ∷ ms) st r u =
      roots_bind Below AllBelow (f m) _ st (k m st r u.0)
      (λ x s g r h. roots_bind AllBelow AllBelow (each f ms) _ s (roots_each ms s r (under_most _ _ ms g u.1))
      (λ xs z i r w. roots_give AllBelow (x ∷ xs) z r (omega arith, w)))

  roots_negate_node : (x : ℕ) (n : Node) (st : State) → Rooted st.nodes → x < length st.nodes → Under (length st.nodes) (children n) → Roots Below (negate_node f x n) st
  roots_negate_node x (TyVar a) st r h u = roots_store (Neg x) st r (h, tt)
  roots_negate_node x (Primitive c) st r h u = roots_store (Neg x) st r (h, tt)
  roots_negate_node x (ListOf a) st r h u = roots_store (Neg x) st r (h, tt)
  roots_negate_node x (Lambda a b) st r h u = roots_store (Neg x) st r (h, tt)
  roots_negate_node x (AttrSet a) st r h u = roots_store (Neg x) st r (h, tt)
  roots_negate_node x (Union ms) st r h u =
      roots_bind AllBelow Below (each f ms) _ st (roots_each ms st r u) (λ xs s g r v. roots_store (Intersection xs) s r v)
  roots_negate_node x (Intersection ms) st r h u =
      roots_bind AllBelow Below (each f ms) _ st (roots_each ms st r u) (λ xs s g r v. roots_store (Union xs) s r v)
  roots_negate_node x (Named n a) st r h u = roots_store (Neg x) st r (h, tt)
  roots_negate_node x (Neg a) st r h u = roots_give Below a st r u.0
  roots_negate_node x Bottom st r h u = roots_store (Neg x) st r (h, tt)
  roots_negate_node x Top st r h u = roots_store (Neg x) st r (h, tt)

roots_negate_by : (f x : ℕ) (st : State) → Rooted st.nodes → x < length st.nodes → Roots Below (negate_by f x) st
roots_negate_by zero x st r h = roots_give Below x st r h
roots_negate_by (suc f) x st r h = roots_negate_node (negate_by f) (roots_negate_by f) x (node_at st.nodes x) st r h (children_below st.nodes x r)

pub roots_negate : (x : ℕ) (st : State) → Rooted st.nodes → x < length st.nodes → Roots Below (negate_output_ty x) st
unfolding negate_output_ty
roots_negate x st r h = roots_negate_by (suc x) x st r h

-- merging
roots_meet : (a b : ℕ) (st : State) → Rooted st.nodes → a < length st.nodes → b < length st.nodes → Roots Below (meet_types a b) st
roots_meet a b st r h i =
    roots_if Below (is st.nodes ty_var_kind a || eqb a b) _ _ st (roots_give Below b st r i) (roots_store (Intersection (a ∷ b ∷ [])) st r (h, (i, tt)))

abbrev TypesBelow : ℕ → List Field → Type 0
TypesBelow k fs = Under k (field_types fs)

abbrev DynBelow : ℕ → Option ℕ → Type 0
DynBelow k d = Under k (dyn_ids d)

roots_field : (f : Field) (gs : List Field) (st : State) → Rooted st.nodes → f.type < length st.nodes → Under (length st.nodes) (field_types gs)
    → Roots TypesBelow (merge_field f gs) st
roots_field f [] st r h u = roots_give TypesBelow (f ∷ []) st r (h, tt)
roots_field f (g ∷ gs) st r h u =
    roots_if TypesBelow (ltb f.key g.key) _ _ st (roots_give TypesBelow (f ∷ g ∷ gs) st r (h, u))
    (roots_if TypesBelow (eqb f.key g.key) _ _ st
    (roots_bind Below TypesBelow (meet_types g.type f.type) _ st (roots_meet g.type f.type st r u.0 h)
    (λ x s i r l. roots_give TypesBelow (record { key = g.key; type = x } ∷ gs) s r (l, under_most _ _ (field_types gs) i u.1)))
    (roots_bind TypesBelow TypesBelow (merge_field f gs) _ st (roots_field f gs st r h u.1)
    (λ hs s i r v. let l = u.0 in roots_give TypesBelow (g ∷ hs) s r (omega arith, v))))

roots_fields : (got fs : List Field) (st : State) → Rooted st.nodes → Under (length st.nodes) (field_types got) → Under (length st.nodes) (field_types fs)
    → Roots TypesBelow (merge_fields got fs) st
roots_fields got [] st r u v = roots_give TypesBelow got st r u
roots_fields got (f ∷ fs) st r u v =
    roots_bind TypesBelow TypesBelow (merge_field f got) _ st (roots_field f got st r v.0 u)
    (λ more s i r w. roots_fields more fs s r w (under_most _ _ (field_types fs) i v.1))

roots_dyn : (d e : Option ℕ) (st : State) → Rooted st.nodes → Under (length st.nodes) (dyn_ids d) → Under (length st.nodes) (dyn_ids e) → Roots DynBelow (merge_dyn d e) st
roots_dyn none e st r u v = roots_give DynBelow e st r v
roots_dyn (some a) none st r u v = roots_give DynBelow (some a) st r u
roots_dyn (some a) (some b) st r u v =
    roots_if DynBelow (eqb a b) _ _ st (roots_give DynBelow (some a) st r u)
    (roots_bind Below DynBelow (store (Intersection (a ∷ b ∷ []))) _ st (roots_store (Intersection (a ∷ b ∷ [])) st r (u.0, v))
    (λ x s g r h. roots_give DynBelow (some x) s r (h, tt)))

abbrev KidsBelow : ℕ → List Attr → Type 0
KidsBelow k [] = Unit {0}
KidsBelow k (a ∷ sets) = Under k (attr_kids a) × KidsBelow k sets

kids_more : {k l : ℕ} (sets : List Attr) → k ≤ l → KidsBelow k sets → KidsBelow l sets
kids_more [] h u = tt
kids_more (a ∷ sets) h u = (under_most _ _ (attr_kids a) h u.0, kids_more sets h u.1)

roots_attrs : (fs : List Field) (d : Option ℕ) (sets : List Attr) (last : List Field → Option ℕ → Run ℕ) (st : State)
    → ((gs : List Field) (e : Option ℕ) (s : State) → Rooted s.nodes → Under (length s.nodes) (field_types gs) → Under (length s.nodes) (dyn_ids e) → Roots Below (last gs e) s)
    → Rooted st.nodes → Under (length st.nodes) (field_types fs) → Under (length st.nodes) (dyn_ids d) → KidsBelow (length st.nodes) sets
    → Roots Below (merge_attrs fs d sets last) st
roots_attrs fs d [] last st l r u v k = l fs d st r u v
roots_attrs fs d (a ∷ sets) last st l r u v k =
    let n = length st.nodes in
    roots_bind DynBelow Below (merge_dyn d a.dyn) _ st (roots_dyn d a.dyn st r v (under_back n (field_types a.fields) (dyn_ids a.dyn) k.0))
    (λ e s g r w. roots_bind TypesBelow Below (merge_fields fs a.fields) _ s
    (roots_fields fs a.fields s r (under_most _ _ (field_types fs) g u) (under_most _ _ (field_types a.fields) g (under_front n (field_types a.fields) (dyn_ids a.dyn) k.0)))
    (λ gs z h r x. roots_attrs gs e sets last z l r x (under_most _ _ (dyn_ids e) h w) (kids_more sets (omega arith) k.1)))

roots_merged : (sets : List Attr) (st : State) → Rooted st.nodes → KidsBelow (length st.nodes) sets → Roots Below (merged sets) st
roots_merged sets st r k =
    roots_attrs [] none sets _ st (λ gs e s r u v. roots_store _ s r (under_both (length s.nodes) (field_types gs) (dyn_ids e) u v)) r tt tt k

kids_of : (k : ℕ) (n : Node) (sets : List Attr) → Under k (children n) → KidsBelow k sets → KidsBelow k (attr_of (as_attr n) ++ sets)
kids_of k (TyVar x) sets u v = v
kids_of k (Primitive c) sets u v = v
kids_of k (ListOf a) sets u v = v
kids_of k (Lambda a b) sets u v = v
kids_of k (AttrSet a) sets u v = (u, v)
kids_of k (Union ms) sets u v = v
kids_of k (Intersection ms) sets u v = v
kids_of k (Named n a) sets u v = v
kids_of k (Neg a) sets u v = v
kids_of k Bottom sets u v = v
kids_of k Top sets u v = v

kids_below : (ns : List Node) (ms : List ℕ) → Rooted ns → KidsBelow (length ns) (attrs_of ns ms)
kids_below ns [] r = tt
kids_below ns (m ∷ ms) r = kids_of (length ns) (node_at ns m) (attrs_of ns ms) (children_below ns m r) (kids_below ns ms r)

pub roots_merge : (ms : List ℕ) (st : State) → Rooted st.nodes → Under (length st.nodes) ms → Roots AllBelow (merge_attrset_intersection ms) st
unfolding merge_attrset_intersection
roots_merge ms st r u =
    let others = filter (λ (m : ℕ). not (is st.nodes attr_set_kind m)) ms in
    roots_if AllBelow (empty (attrs_of st.nodes ms)) _ _ st (roots_give AllBelow ms st r u)
    (roots_bind Below AllBelow (merged (attrs_of st.nodes ms)) _ st (roots_merged (attrs_of st.nodes ms) st r (kids_below st.nodes ms r))
    (λ x s g r h. roots_give AllBelow (others ++ (x ∷ [])) s r
    (under_both (length s.nodes) others (x ∷ []) (under_most _ _ others g (filter_under _ (length st.nodes) ms u)) (h, tt))))

-- steps of the rules
pub roots_variable : (p : Pass) (id : ℕ) (st : State) → Rooted st.nodes → Roots Below (variable p id) st
roots_variable p id st r = roots_store (TyVar (p.rep id)) st r tt

pub roots_flattened : (k : ℕ) (xs : List ℕ) (st : State) → Rooted st.nodes → Under (length st.nodes) xs → Roots AllBelow (flattened k xs) st
roots_flattened k xs st r u =
    roots_bind AllBelow AllBelow (limit xs) _ st (roots_limit xs st r u)
    (λ ms s g r v. roots_limit (flatten_composite k s.nodes ms) s r (flatten_below k s.nodes r ms v))

roots_settle : (cancelled : Bool) (rest : Run ℕ) (wrap : List ℕ → Node) (xs : List ℕ) (st : State) → Wraps wrap → Rooted st.nodes → Under (length st.nodes) xs
    → Roots Below rest st → Roots Below (settle cancelled rest wrap xs) st
roots_settle cancelled rest wrap [] st w r u k = roots_if Below cancelled _ _ st (roots_store Top st r tt) k
roots_settle cancelled rest wrap (x ∷ []) st w r u k = roots_give Below x st r u.0
roots_settle cancelled rest wrap (x ∷ y ∷ xs) st w r u k = roots_store (wrap (x ∷ y ∷ xs)) st r (w (length st.nodes) (x ∷ y ∷ xs) u)

composite_wraps : (pol : Polarity) → Wraps (composite pol)
composite_wraps Positive k xs u = u
composite_wraps Negative k xs u = u

pub roots_preserving : (p : Pass) (id : ℕ) (pol : Polarity) (x : ℕ) (st : State) → Rooted st.nodes → x < length st.nodes → Roots Below (preserving p id pol x) st
roots_preserving p id pol x st r h =
    roots_bind Below Below (variable p id) _ st (roots_variable p id st r)
    (λ y s g r i. roots_if Below (is st.nodes ty_var_kind x || is st.nodes bottom_kind x) _ _ s (roots_give Below y s r i)
    (roots_store (composite pol (y ∷ x ∷ [])) s r (composite_wraps pol (length s.nodes) (y ∷ x ∷ []) (i, (omega arith, tt)))))

pub roots_first_of : (ys : List ℕ) (st : State) → Rooted st.nodes → Under (length st.nodes) ys → Roots Below (first_member ys) st
roots_first_of [] st r u = roots_store Bottom st r tt
roots_first_of (y ∷ ys) st r u = roots_give Below y st r u.0

roots_inter_normalized : (p : Pass) (pol : Polarity) (ms : List ℕ) (st : State) → Rooted st.nodes → Under (length st.nodes) ms → Roots AllBelow (inter_normalized p pol ms) st
roots_inter_normalized p Positive ms st r u =
    roots_give AllBelow _ st r
    (under_cancelled (length st.nodes) st.nodes (remove_redundant_negations p.functor st.nodes ms)
    (under_needed (length st.nodes) p.functor st.nodes ms u))
roots_inter_normalized p Negative ms st r u =
    roots_bind AllBelow AllBelow (merge_attrset_intersection ms) _ st (roots_merge ms st r u)
    (λ one s g r v. roots_give AllBelow _ s r (under_needed (length s.nodes) p.functor s.nodes one v))

pub roots_inter_rest : (p : Pass) (pol : Polarity) (ys ms : List ℕ) (st : State) → Rooted st.nodes → Under (length st.nodes) ys → Under (length st.nodes) ms
    → Roots Below (inter_rest p pol ys ms) st
unfolding inter_rest
roots_inter_rest p pol ys ms st r u v =
    roots_bind AllBelow Below (inter_normalized p pol ms) _ st (roots_inter_normalized p pol ms st r v)
    (λ xs s g r w. roots_bind AllBelow Below (simplify_union_neg_intersection p.functor xs) _ s (roots_simplify p.functor xs s r w)
    (λ simple z h r w. roots_bind AllBelow Below (factor_shared_from_intersection simple) _ z (roots_factor simple z r w)
    (λ zs y i r w. roots_settle (top_if_emptied pol ms) (first_member ys) Intersection zs y (λ k ws o. o) r w (roots_first_of ys y r (under_most _ _ ys (omega arith) u)))))

pub roots_union_normalized : (pol : Polarity) (ms : List ℕ) (st : State) → Rooted st.nodes → Under (length st.nodes) ms → Roots AllBelow (union_normalized pol ms) st
roots_union_normalized Positive ms st r u =
    roots_give AllBelow _ st r (under_absorbed (length st.nodes) st.nodes (remove_tautological_pairs st.nodes ms) (under_cancelled (length st.nodes) st.nodes ms u))
roots_union_normalized Negative ms st r u = roots_give AllBelow _ st r (under_absorbed (length st.nodes) st.nodes ms u)
