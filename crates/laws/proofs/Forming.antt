-- What a run over a table stores is in the form of a listing: flags, codes, names and numbers as its lines have them, keys that ascend and are
-- names, at most 128 members and 4,096 nodes. And a run refuses with 6 to 9 and with no other number. Assumes nothing.
use mathlib.Core.Path.{◌≡◌, refl, sym, ap, ◌∙◌, subst}
use mathlib.Core.Bool.{Bool, true, false, not, ◌||◌}
use Prim.Native.Nat.{ℕ, zero, suc, ◌+◌, ◌≤◌, ◌<◌}
use native.Mathlib.Omega.{arith}
use mathlib.Core.List.{List, [], ◌∷◌, ◌++◌, map}
use lib.ListN.{length, length-append, get_or-eq_default}
use lib.Dec.{eqb, ltb}
use borrow.Author.Tests.{ltb-true, ltb-false, eqb-false}
use Rattle.cells.specs.Part.{eq_list, if}
use Rattle.rules.specs.Plain.{find, filter, any, all, contains, ascending, empty, both}
use Rattle.rules.specs.Ceilings.{most_members, most_nodes, most_cells, most_operations, most_keys}
use Rattle.rules.specs.Text.{greatest}
use Rattle.rules.specs.Table.{Field, Attr, Entry, var, prim, tyvar, list, fn, set, neg, named, inter, union, frozen, field_types, field_keys, dyn_ids, kids}
use Rattle.rules.specs.Order.{sort}
use Rattle.rules.specs.Types.{Node, TyVar, Primitive, ListOf, Lambda, AttrSet, Union, Intersection, Named, Neg, Bottom, Top, members, as_attr, encode, flip, State, Out}
use Rattle.rules.specs.Types.{ok, no, Run, bind, ◌>>=◌, give, refuse, ask, cells_of, keep, store, limit, node_at, is, ty_var_kind, attr_set_kind, union_kind}
use Rattle.rules.specs.Types.{intersection_kind, bottom_kind}
use Rattle.rules.specs.Members.{members_at, remove_tautological_pairs, absorb_subsumed_union_members, negated_inners, without, flatten_composite}
use Rattle.rules.specs.Members.{remove_redundant_negations, has_type_contradiction, spared, takes_some, meet_types, merge_field, merge_fields, merge_dyn, merge_attrs}
use Rattle.rules.specs.Members.{optional_in_all, open_if_all, attr_of, attrs_of, merged, merge_attrset_intersection, sole, simplify_one, simplify_each}
use Rattle.rules.specs.Members.{simplify_union_neg_intersection, mark_sorted, remainders, factored, factor_unions, factor_shared_from_intersection, each, negate_node}
use Rattle.rules.specs.Members.{negate_by, negate_output_ty}
use Rattle.rules.specs.Canonicalizer.{Pass, Reader, Visit, variable, note, has_bailed, count_one, check_budget, slot, key_at, set_key, concrete_of, flattened}
use Rattle.rules.specs.Canonicalizer.{composite_kind, composite, settle, top_if_emptied, deduplicated, normalized, expand_bounds, is_variable, is_named, begin_list, Begun}
use Rattle.rules.specs.Canonicalizer.{began, begin, expand_bounds_empty_fallback, chain, expansion, bounds_of, preserving, variable_rule, named_bound, canonicalize_inner}
use Rattle.rules.specs.Canonicalizer.{fields_rule, dyn_rule, first_member, inter_normalized, inter_rest, turned, inter_retry, inter_rule, union_normalized, union_rule, rule}
use Rattle.rules.specs.Canonicalizer.{work, look, entered, visit, fresh, pass, Answer, Shown, shown, refused_with, after_second, with_set, after_first, canonicalize}
use Rattle.laws.specs.Sound.{Distinct, Tabled}
use Rattle.rules.specs.declared.Polarity.{Polarity}
use Rattle.rules.specs.declared.Polarity.TheVariants.{Positive, Negative}
use Rattle.laws.proofs.Storing.{Rooted, rooted_none, by_place, node_before, node_last, Miss, miss, distinct_none, distinct_more}
use Rattle.laws.proofs.Ascending.{From, Rising, ascending_of, ascending_filter}
use Rattle.laws.proofs.Moving.{begin_known, distinct_known, bounds_known, visit_moves, steady_fresh}
use Rattle.laws.proofs.Filtering.{under_front, under_back, filter_under}
use Rattle.cells.specs.Placed.{Under}
use Rattle.cells.proofs.Choices.{by_branch, by_test}
use mathlib.Core.Option.{Option, none, some}

-- a set's keys ascend and are names, and its open flag is 0 or 1
pub record FormedSet (names : ℕ) (a : Attr) : Type 0 where
  pub ascend : ascending (field_keys a.fields) ≡ true
  pub named : Under names (field_keys a.fields)
  pub optionals : ascending a.optional ≡ true
  pub others : Under names a.optional
  pub opens : a.is_open ≤ 1

-- what a listing asks of a node but for its children
abbrev pub Formed : ℕ → Node → Type 0
Formed names (TyVar x) = x ≤ greatest
Formed names (Primitive c) = c ≤ 31
Formed names (ListOf a) = Unit {0}
Formed names (Lambda a b) = Unit {0}
Formed names (AttrSet a) = FormedSet names a
Formed names (Union ms) = length ms ≤ most_members
Formed names (Intersection ms) = length ms ≤ most_members
Formed names (Named n a) = n ≤ greatest
Formed names (Neg a) = Unit {0}
Formed names Bottom = Unit {0}
Formed names Top = Unit {0}

-- and of an entry for its nodes to be so
abbrev pub FormedEntry : ℕ → Entry → Type 0
FormedEntry names (var l u) = Unit {0}
FormedEntry names (prim c) = c ≤ 31
FormedEntry names (tyvar x) = x ≤ greatest
FormedEntry names (list a) = Unit {0}
FormedEntry names (fn a b) = Unit {0}
FormedEntry names (set a) = FormedSet names a
FormedEntry names (neg a) = Unit {0}
FormedEntry names (named n a) = n ≤ greatest
FormedEntry names (inter a b) = Unit {0}
FormedEntry names (union a b) = Unit {0}
FormedEntry names frozen = ⊥

-- each node is so, they are not too many, and no two are equal
pub record Fine (names : ℕ) (ns : List Node) : Type 0 where
  pub formed : (x : ℕ) → Formed names (node_at ns x)
  pub few : length ns ≤ most_nodes
  pub distinct : Distinct ns

-- the numbers of a run's refusals
abbrev pub RunNumber : ℕ → Type 0
RunNumber k = (6 ≤ k) × (k ≤ 9)

module _ (names : ℕ) where
  fine_none : Fine names []
  fine_none = record { formed = λ x. tt; few = omega arith; distinct = distinct_none }

  fine_more : (n : Node) (ns : List Node) → Formed names n → length ns < most_nodes → Miss (encode n) (map encode ns) → Fine names ns → Fine names (ns ++ (n ∷ []))
  fine_more n ns f l m h =
      record {
        formed = λ x. place x (ltb x (length (ns ++ (n ∷ [])))) refl;
        few = omega (arith, length-append ns (n ∷ []));
        distinct = distinct_more ns n h.distinct m;
      }
    where
      place : (x : ℕ) (b : Bool) → ltb x (length (ns ++ (n ∷ []))) ≡ b → Formed names (node_at (ns ++ (n ∷ [])) x)
      place x true e =
          by_place ns n (λ (i : ℕ). Formed names (node_at (ns ++ (n ∷ [])) i))
          (λ i lt. subst (Formed names) (sym (node_before ns n i lt)) (h.formed i)) (subst (Formed names) (sym (node_last ns n)) f) x (ltb-true x (length (ns ++ (n ∷ []))) e)
      place x false e = subst (Formed names) (sym (get_or-eq_default (ns ++ (n ∷ [])) Bottom (ltb-false x (length (ns ++ (n ∷ []))) e))) tt

  -- what a step comes to: fine nodes and a value that is so, or a refusal with 6 to 9
  pub data Tells {A : Type 0} (Q : A → Type 0) : Out A → Type 0 where
    gives : {a : A} {st : State} → Fine names st.nodes → Q a → Tells Q (ok a st)
    stops : {k : ℕ} → RunNumber k → Tells Q (no k)

  abbrev pub Runs : {A : Type 0} → (A → Type 0) → Run A → Type 0
  Runs Q m = (st : State) → Fine names st.nodes → Tells Q (m st)

  abbrev pub Any : {A : Type 0} → A → Type 0
  Any a = Unit {0}

  abbrev pub Goes : {A : Type 0} → Run A → Type 0
  Goes m = Runs Any m

  tells_bind : {A B : Type 0} (P : A → Type 0) (Q : B → Type 0) (o : Out A) (f : A → Run B) → Tells P o → ((a : A) → P a → Runs Q (f a)) → Tells Q (bind o f)
  tells_bind P Q o f (gives {a} {st} h q) g = g a q st h
  tells_bind P Q o f (stops k) g = stops k

  runs_bind : {A B : Type 0} (P : A → Type 0) (Q : B → Type 0) (m : Run A) (f : A → Run B) → Runs P m → ((a : A) → P a → Runs Q (f a)) → Runs Q (m >>= f)
  runs_bind P Q m f h g st i = tells_bind P Q (m st) f (h st i) g

  runs_give : {A : Type 0} (Q : A → Type 0) (a : A) → Q a → Runs Q (give a)
  runs_give Q a q st h = gives h q

  goes_bind : {A B : Type 0} (m : Run A) (f : A → Run B) → Goes m → ((a : A) → Goes (f a)) → Goes (m >>= f)
  goes_bind m f h g = runs_bind Any Any m f h (λ a _. g a)

  goes_give : {A : Type 0} (a : A) → Goes (give a)
  goes_give a st h = gives h tt

  goes_ask : {A : Type 0} (f : List Node → A) → Goes (ask f)
  goes_ask f st h = gives h tt

  goes_if : {A : Type 0} (b : Bool) (x y : Unit {0} → Run A) → Goes (x tt) → Goes (y tt) → Goes (if b x y)
  goes_if {A = A} b x y k l = by_branch (λ (m : Run A). Goes m) b x y k l

  keep_tells : (n : Node) (st : State) (f : Option ℕ) → find (eq_list (encode n)) 0 (map encode st.nodes) ≡ f → Formed names n → Fine names st.nodes → Tells Any (keep n st f)
  keep_tells n st (some i) q f h = gives h tt
  keep_tells n st none q f h =
      by_test (Tells Any) (ltb (length st.nodes) most_nodes) _ _
      (λ e. by_branch (Tells Any) (ltb most_cells (st.cells + cells_of n)) _ _ (stops (omega arith, omega arith))
      (gives (fine_more n st.nodes f (ltb-true (length st.nodes) most_nodes e) (miss (encode n) (map encode st.nodes) 0 q) h) tt))
      (λ e. stops (omega arith, omega arith))

  -- a node with no more members than 128
  goes_store : (n : Node) → (length (members n) ≤ most_members → Formed names n) → Goes (store n)
  unfolding store
  goes_store n f st h =
      by_test (Tells Any) (ltb most_members (length (members n))) _ _ (λ e. stops (omega arith, omega arith))
      (λ e. keep_tells n st (find (eq_list (encode n)) 0 (map encode st.nodes)) refl (f (ltb-false most_members (length (members n)) e)) h)

  goes_limit : (xs : List ℕ) → Goes (limit xs)
  unfolding limit
  goes_limit xs = goes_if (ltb most_members (length xs)) _ _ (λ st h. stops (omega arith, omega arith)) (goes_give xs)

  -- the wraps of lists
  abbrev Wraps : (List ℕ → Node) → Type 0
  Wraps wrap = (xs : List ℕ) → length (members (wrap xs)) ≤ most_members → Formed names (wrap xs)

  goes_sole : (wrap : List ℕ → Node) → Wraps wrap → (xs : List ℕ) → Goes (sole wrap xs)
  goes_sole wrap o [] = goes_give []
  goes_sole wrap o (x ∷ []) = goes_give (x ∷ [])
  goes_sole wrap o (x ∷ y ∷ xs) = goes_bind (store (wrap (x ∷ y ∷ xs))) _ (goes_store (wrap (x ∷ y ∷ xs)) (o (x ∷ y ∷ xs))) (λ z. goes_give (z ∷ []))

  goes_union : (xs : List ℕ) → Goes (sole Union xs)
  goes_union xs = goes_sole Union (λ ys h. h) xs

  goes_intersection : (xs : List ℕ) → Goes (sole Intersection xs)
  goes_intersection xs = goes_sole Intersection (λ ys h. h) xs

  -- simplifying
  goes_simplify_one : (negs : List ℕ) (m : ℕ) → Goes (simplify_one negs m)
  goes_simplify_one negs m st = goes_if (is st.nodes union_kind m) _ _ (goes_union (spared st.nodes negs m)) (goes_give (m ∷ [])) st

  goes_simplify_each : (negs ms : List ℕ) → Goes (simplify_each negs ms)
  goes_simplify_each negs [] = goes_give []
  goes_simplify_each negs (m ∷ ms) =
      goes_bind (simplify_one negs m) _ (goes_simplify_one negs m)
      (λ x. goes_bind (simplify_each negs ms) _ (goes_simplify_each negs ms) (λ xs. goes_give (x ++ xs)))

  goes_simplify : (functor : ℕ) (ms : List ℕ) → Goes (simplify_union_neg_intersection functor ms)
  unfolding simplify_union_neg_intersection
  goes_simplify functor ms st =
      let negs = negated_inners st.nodes ms in
      goes_if (empty negs) _ _ (goes_give ms)
      (goes_if (not (any (is st.nodes union_kind) ms)) _ _ (goes_ask (λ (ns : List Node). remove_redundant_negations functor ns ms))
      (goes_bind (simplify_each negs ms) _ (goes_simplify_each negs ms)
      (λ xs. goes_if (any (takes_some st.nodes negs) ms) _ _ (goes_ask _) (goes_give xs)))) st

  -- factoring
  goes_mark : (xs : List ℕ) → Goes (mark_sorted xs)
  goes_mark xs st h = gives h tt

  goes_remainders : (shared us : List ℕ) → Goes (remainders shared us)
  goes_remainders shared [] st = goes_give [] st
  goes_remainders shared (u ∷ us) st =
      goes_bind (sole Union (without shared (members_at st.nodes u))) _ (goes_union (without shared (members_at st.nodes u)))
      (λ x. goes_bind (remainders shared us) _ (goes_remainders shared us) (λ xs. goes_give (x ++ xs))) st

  goes_factored : (others us shared : List ℕ) → Goes (factored others us shared)
  goes_factored others us [] = goes_give (others ++ us)
  goes_factored others us (s ∷ ss) =
      goes_bind (remainders (s ∷ ss) us) _ (goes_remainders (s ∷ ss) us)
      (λ rests st. goes_bind (mark_sorted (sort st.nodes (s ∷ ss))) _ (goes_mark (sort st.nodes (s ∷ ss)))
      (λ _. goes_bind (sole Intersection (rests ++ others)) _ (goes_intersection (rests ++ others))
      (λ inner. goes_union (sort st.nodes (s ∷ ss) ++ inner))) st)

  goes_factor_unions : (others us : List ℕ) → Goes (factor_unions others us)
  goes_factor_unions others [] st = goes_give others st
  goes_factor_unions others (u ∷ []) st =
      goes_bind (sole Union (members_at st.nodes u)) _ (goes_union (members_at st.nodes u)) (λ x. goes_give (others ++ x)) st
  goes_factor_unions others (u ∷ w ∷ us) st =
      goes_factored others (u ∷ w ∷ us) (filter (λ (m : ℕ). all (λ (z : ℕ). contains (members_at st.nodes z) m) (w ∷ us)) (members_at st.nodes u)) st

  goes_factor : (ms : List ℕ) → Goes (factor_shared_from_intersection ms)
  unfolding factor_shared_from_intersection
  goes_factor ms st = goes_factor_unions (filter (λ (m : ℕ). not (is st.nodes union_kind m)) ms) (filter (is st.nodes union_kind) ms) st

  -- negation
  goes_each : (f : ℕ → Run ℕ) → ((m : ℕ) → Goes (f m)) → (ms : List ℕ) → Goes (each f ms)
  goes_each f k [] = goes_give []
  goes_each f k (m ∷ ms) = goes_bind (f m) _ (k m) (λ x. goes_bind (each f ms) _ (goes_each f k ms) (λ xs. goes_give (x ∷ xs)))

  goes_neg : (x : ℕ) → Goes (store (Neg x))
  goes_neg x = goes_store (Neg x) (λ h. tt)

  goes_negate_node : (f : ℕ → Run ℕ) → ((m : ℕ) → Goes (f m)) → (x : ℕ) (n : Node) → Goes (negate_node f x n)
  goes_negate_node f k x (TyVar a) = goes_neg x
  goes_negate_node f k x (Primitive c) = goes_neg x
  goes_negate_node f k x (ListOf a) = goes_neg x
  goes_negate_node f k x (Lambda a b) = goes_neg x
  goes_negate_node f k x (AttrSet a) = goes_neg x
  goes_negate_node f k x (Union ms) = goes_bind (each f ms) _ (goes_each f k ms) (λ xs. goes_store (Intersection xs) (λ h. h))
  goes_negate_node f k x (Intersection ms) = goes_bind (each f ms) _ (goes_each f k ms) (λ xs. goes_store (Union xs) (λ h. h))
  goes_negate_node f k x (Named n a) = goes_neg x
  goes_negate_node f k x (Neg a) = goes_give a
  goes_negate_node f k x Bottom = goes_neg x
  goes_negate_node f k x Top = goes_neg x

  goes_negate_by : (f x : ℕ) → Goes (negate_by f x)
  goes_negate_by zero x st = goes_give x st
  goes_negate_by (suc f) x st = goes_negate_node (negate_by f) (goes_negate_by f) x (node_at st.nodes x) st

  goes_negate : (x : ℕ) → Goes (negate_output_ty x)
  unfolding negate_output_ty
  goes_negate x = goes_negate_by (suc x) x

  -- merging
  goes_meet : (a b : ℕ) → Goes (meet_types a b)
  goes_meet a b st = goes_if (is st.nodes ty_var_kind a || eqb a b) _ _ (goes_give b) (goes_store (Intersection (a ∷ b ∷ [])) (λ h. h)) st

  record Fielded (f : Field) (gs hs : List Field) : Type 0 where
    rising : Rising (field_keys gs) → Rising (field_keys hs)
    from : (a : ℕ) → a ≤ f.key → From a (field_keys gs) → From a (field_keys hs)
    under : f.key < names → Under names (field_keys gs) → Under names (field_keys hs)

  runs_field : (f : Field) (gs : List Field) → Runs (Fielded f gs) (merge_field f gs)
  runs_field f [] = runs_give (Fielded f []) (f ∷ []) (record { rising = λ r. (tt, tt); from = λ a h k. h; under = λ h u. (h, tt) })
  runs_field f (g ∷ gs) =
      by_test (λ (m : Run (List Field)). Runs (Fielded f (g ∷ gs)) m) (ltb f.key g.key) _ _
      (λ e. runs_give (Fielded f (g ∷ gs)) (f ∷ g ∷ gs) (record { rising = λ r. (ltb-true f.key g.key e, r); from = λ a h k. h; under = λ h u. (h, u) }))
      (λ e. by_test (λ (m : Run (List Field)). Runs (Fielded f (g ∷ gs)) m) (eqb f.key g.key) _ _
      (λ q. runs_bind Any (Fielded f (g ∷ gs)) (meet_types g.type f.type) _ (goes_meet g.type f.type)
      (λ x _. runs_give (Fielded f (g ∷ gs)) (record { key = g.key; type = x } ∷ gs) (record { rising = λ r. r; from = λ a h k. k; under = λ h u. u })))
      (λ q. let l = ltb-false f.key g.key e in let n = eqb-false f.key g.key q in
      let lt : suc g.key ≤ f.key = omega arith in
      runs_bind (Fielded f gs) (Fielded f (g ∷ gs)) (merge_field f gs) _ (runs_field f gs)
      (λ hs d. runs_give (Fielded f (g ∷ gs)) (g ∷ hs)
      (record { rising = λ r. (d.from (suc g.key) lt r.0, d.rising r.1); from = λ a h k. k; under = λ h u. (u.0, d.under h u.1) }))))

  -- keys as a set has them
  record InOrder (fs : List Field) : Type 0 where
    rising : Rising (field_keys fs)
    named : Under names (field_keys fs)

  runs_fields : (got fs : List Field) → InOrder got → Under names (field_keys fs) → Runs InOrder (merge_fields got fs)
  runs_fields got [] o u = runs_give InOrder got o
  runs_fields got (f ∷ fs) o u =
      runs_bind (Fielded f got) InOrder (merge_field f got) _ (runs_field f got)
      (λ hs d. runs_fields hs fs (record { rising = d.rising o.rising; named = d.under u.0 o.named }) u.1)

  goes_dyn : (d e : Option ℕ) → Goes (merge_dyn d e)
  goes_dyn none e = goes_give e
  goes_dyn (some a) none = goes_give (some a)
  goes_dyn (some a) (some b) =
      goes_if (eqb a b) _ _ (goes_give (some a))
      (goes_bind (store (Intersection (a ∷ b ∷ []))) _ (goes_store (Intersection (a ∷ b ∷ [])) (λ h. h)) (λ x. goes_give (some x)))

  abbrev NamedAll : List Attr → Type 0
  NamedAll [] = Unit {0}
  NamedAll (a ∷ sets) = Under names (field_keys a.fields) × NamedAll sets

  goes_attrs : (fs : List Field) (d : Option ℕ) (sets : List Attr) (last : List Field → Option ℕ → Run ℕ) → InOrder fs → NamedAll sets
      → ((gs : List Field) (d : Option ℕ) → InOrder gs → Goes (last gs d)) → Goes (merge_attrs fs d sets last)
  goes_attrs fs d [] last o u k = k fs d o
  goes_attrs fs d (a ∷ sets) last o u k =
      goes_bind (merge_dyn d a.dyn) _ (goes_dyn d a.dyn)
      (λ e. runs_bind InOrder Any (merge_fields fs a.fields) _ (runs_fields fs a.fields o u.0)
      (λ gs o. goes_attrs gs e sets last o u.1 k))

  named_more : (n : Node) (sets : List Attr) → Formed names n → NamedAll sets → NamedAll (attr_of (as_attr n) ++ sets)
  named_more (TyVar x) sets f u = u
  named_more (Primitive c) sets f u = u
  named_more (ListOf a) sets f u = u
  named_more (Lambda a b) sets f u = u
  named_more (AttrSet a) sets f u = (f.named, u)
  named_more (Union ms) sets f u = u
  named_more (Intersection ms) sets f u = u
  named_more (Named n a) sets f u = u
  named_more (Neg a) sets f u = u
  named_more Bottom sets f u = u
  named_more Top sets f u = u

  named_all : (ns : List Node) (ms : List ℕ) → Fine names ns → NamedAll (attrs_of ns ms)
  named_all ns [] h = tt
  named_all ns (m ∷ ms) h = named_more (node_at ns m) (attrs_of ns ms) (h.formed m) (named_all ns ms h)

  goes_merged : (sets : List Attr) → NamedAll sets → Goes (merged sets)
  goes_merged sets u =
      goes_attrs [] none sets _ (record { rising = tt; named = tt }) u
      (λ gs d o. let a = ascending_of (field_keys gs) o.rising in
      goes_store (AttrSet (record { fields = gs; dyn = d; is_open = open_if_all sets; optional = filter (optional_in_all sets) (field_keys gs) }))
      (λ h. record {
        ascend = a;
        named = o.named;
        optionals = ascending_filter (optional_in_all sets) (field_keys gs) a;
        others = filter_under (optional_in_all sets) names (field_keys gs) o.named;
        opens = by_branch (λ (k : ℕ). k ≤ 1) (all (λ (b : Attr). eqb b.is_open 1) sets) _ _ (omega arith) (omega arith);
      }))

  goes_merge : (ms : List ℕ) → Goes (merge_attrset_intersection ms)
  unfolding merge_attrset_intersection
  goes_merge ms st h =
      let sets = attrs_of st.nodes ms in
      let others = filter (λ (m : ℕ). not (is st.nodes attr_set_kind m)) ms in
      goes_if (empty sets) _ _ (goes_give ms) (goes_bind (merged sets) _ (goes_merged sets (named_all st.nodes ms h)) (λ x. goes_give (others ++ (x ∷ [])))) st h

  -- steps of the rules that visit nothing
  goes_flattened : (k : ℕ) (xs : List ℕ) → Goes (flattened k xs)
  goes_flattened k xs = goes_bind (limit xs) _ (goes_limit xs) (λ ms st. goes_limit (flatten_composite k st.nodes ms) st)

  goes_bottom : Goes (store Bottom)
  goes_bottom = goes_store Bottom (λ h. tt)

  goes_settle : (cancelled : Bool) (rest : Run ℕ) (wrap : List ℕ → Node) (xs : List ℕ) → Wraps wrap → Goes rest → Goes (settle cancelled rest wrap xs)
  goes_settle cancelled rest wrap [] o k = goes_if cancelled _ _ (goes_store Top (λ h. tt)) k
  goes_settle cancelled rest wrap (x ∷ []) o k = goes_give x
  goes_settle cancelled rest wrap (x ∷ y ∷ xs) o k = goes_store (wrap (x ∷ y ∷ xs)) (o (x ∷ y ∷ xs))

  goes_normalized : (p : Pass) (rest : Run ℕ) (pol : Polarity) (ms : List ℕ) → Goes rest → Goes (normalized p rest pol ms)
  goes_normalized p rest Positive ms k st = goes_settle (top_if_emptied Positive ms) rest Union (absorb_subsumed_union_members st.nodes (remove_tautological_pairs st.nodes ms)) (λ ys h. h) k st
  goes_normalized p rest Negative ms k st =
      goes_bind (merge_attrset_intersection ms) _ (goes_merge ms)
      (λ one st. goes_if (has_type_contradiction p.functor st.nodes (remove_redundant_negations p.functor st.nodes one)) _ _ goes_bottom
      (goes_bind (factor_shared_from_intersection (remove_redundant_negations p.functor st.nodes one)) _ (goes_factor (remove_redundant_negations p.functor st.nodes one))
      (λ ys. goes_settle (top_if_emptied Negative ms) rest Intersection ys (λ zs h. h) k)) st) st

  goes_first_of : (ys : List ℕ) → Goes (first_member ys)
  goes_first_of [] = goes_bottom
  goes_first_of (y ∷ ys) = goes_give y

  goes_inter_normalized : (p : Pass) (pol : Polarity) (ms : List ℕ) → Goes (inter_normalized p pol ms)
  goes_inter_normalized p Positive ms = goes_ask _
  goes_inter_normalized p Negative ms = goes_bind (merge_attrset_intersection ms) _ (goes_merge ms) (λ one. goes_ask _)

  goes_inter_rest : (p : Pass) (pol : Polarity) (ys ms : List ℕ) → Goes (inter_rest p pol ys ms)
  unfolding inter_rest
  goes_inter_rest p pol ys ms =
      goes_bind (inter_normalized p pol ms) _ (goes_inter_normalized p pol ms)
      (λ xs. goes_bind (simplify_union_neg_intersection p.functor xs) _ (goes_simplify p.functor xs)
      (λ simple. goes_bind (factor_shared_from_intersection simple) _ (goes_factor simple)
      (λ zs. goes_settle (top_if_emptied pol ms) (first_member ys) Intersection zs (λ ws h. h) (goes_first_of ys))))

  goes_union_normalized : (pol : Polarity) (ms : List ℕ) → Goes (union_normalized pol ms)
  goes_union_normalized Positive ms = goes_ask _
  goes_union_normalized Negative ms = goes_ask _

-- what a table says of a pass for its nodes to be in form
pub record FormedPass (names : ℕ) (p : Pass) (t : Reader) : Type 0 where
  pub tabled : Tabled p t
  pub reps : (id : ℕ) → id ≤ greatest → p.rep id ≤ greatest
  pub entries : (id : ℕ) → id < p.count → FormedEntry names (t id)

module _ (names : ℕ) (p : Pass) (t : Reader) (b : FormedPass names p t) where
  abbrev n : ℕ
  n = p.count

  goes_variable : (id : ℕ) → id ≤ greatest → Goes names (variable p id)
  goes_variable id h = goes_store names (TyVar (p.rep id)) (λ _. b.reps id h)

  known_variable : (id : ℕ) → id < n → Goes names (variable p id)
  known_variable id h = goes_variable id (omega (arith, b.tabled.few))

  -- a visitor of the entries there are
  abbrev Goer : Visit → Type 0
  Goer v = (id : ℕ) (pol : Polarity) → id < n → Goes names (v id pol)

  -- what happens at one entry, given such a visitor
  module _ (v : Visit) (mv : Goer v) where
    goes_visits : (pol : Polarity) (bs : List ℕ) → Under n bs → Goes names (each (λ (c : ℕ). v c pol) bs)
    goes_visits pol [] u = goes_give names []
    goes_visits pol (c ∷ bs) u =
        goes_bind names (v c pol) _ (mv c pol u.0) (λ x. goes_bind names (each (λ (c : ℕ). v c pol) bs) _ (goes_visits pol bs u.1) (λ xs. goes_give names (x ∷ xs)))

    goes_expand : (rest : Run ℕ) → Goes names rest → (bs : List ℕ) (pol : Polarity) → Under n bs → Goes names (expand_bounds p v rest bs pol)
    unfolding expand_bounds
    goes_expand rest k bs pol u =
        goes_bind names (each (λ (c : ℕ). v c pol) (deduplicated bs)) _ (goes_visits pol (deduplicated bs) (distinct_known n bs u))
        (λ xs. goes_bind names (flattened (composite_kind pol) xs) _ (goes_flattened names (composite_kind pol) xs)
        (λ ys. goes_bind names (concrete_of p ys) _ (goes_ask names _) (λ ms. goes_normalized names p rest pol ms k)))

    goes_fallback : (c : ℕ) (g : Begun) (id : ℕ) (pol : Polarity) → id < n → Goes names (expand_bounds_empty_fallback c p t v g id pol)
    unfolding expand_bounds_empty_fallback
    goes_fallback zero g id pol h st = known_variable id h st
    goes_fallback (suc c) g id pol h st =
        goes_if names (empty (begin_list p t id pol) || both st.bailed (λ _. began g pol)) _ _ (known_variable id h)
        (goes_expand (expand_bounds_empty_fallback c p t v (begin st.bailed g pol) id (flip pol))
        (goes_fallback c (begin st.bailed g pol) id (flip pol) h) (begin_list p t id pol) (flip pol) (begin_known p t b.tabled id pol h)) st

    goes_expansion : (id : ℕ) (bs : List ℕ) (pol : Polarity) → id < n → Under n bs → Goes names (expansion p t v id bs pol)
    goes_expansion id bs pol h u =
        goes_expand (expand_bounds_empty_fallback chain p t v (record { lower = false; upper = false }) id pol)
        (goes_fallback chain (record { lower = false; upper = false }) id pol h) bs pol u

    wraps_composite : (pol : Polarity) (xs : List ℕ) → length (members (composite pol xs)) ≤ most_members → Formed names (composite pol xs)
    wraps_composite Positive xs h = h
    wraps_composite Negative xs h = h

    goes_preserving : (id : ℕ) (pol : Polarity) (x : ℕ) → id < n → Goes names (preserving p id pol x)
    goes_preserving id pol x h st =
        goes_bind names (variable p id) _ (known_variable id h)
        (λ y. goes_if names (is st.nodes ty_var_kind x || is st.nodes bottom_kind x) _ _ (goes_give names y)
        (goes_store names (composite pol (y ∷ x ∷ [])) (wraps_composite pol (y ∷ x ∷ [])))) st

    goes_variable_rule : (id : ℕ) (pol : Polarity) (bs cs : List ℕ) → id < n → Under n bs → Under n cs → Goes names (variable_rule p t v id pol bs cs)
    goes_variable_rule id pol bs [] h u w =
        goes_if names (p.preserved (p.rep id)) _ _ (known_variable id h) (goes_expansion id _ pol h (filter_under _ n bs u))
    goes_variable_rule id pol bs (c ∷ cs) h u w =
        goes_if names (p.preserved (p.rep id)) _ _
        (goes_bind names (expansion p t v id (c ∷ cs) pol) _ (goes_expansion id (c ∷ cs) pol h w) (λ x. goes_preserving id pol x h))
        (goes_expansion id (c ∷ cs) pol h w)

    goes_named : (hit : ℕ → Run ℕ) (miss : Run ℕ) (bs : List ℕ) → ((c : ℕ) → c < n → Goes names (hit c)) → Goes names miss → Under n bs
        → Goes names (named_bound t hit miss bs)
    goes_named hit miss [] k l u = l
    goes_named hit miss (c ∷ bs) k l u = goes_if names (is_named (t c)) _ _ (k c u.0) (goes_named hit miss bs k l u.1)

    goes_inner : (id : ℕ) (l u : List ℕ) (pol : Polarity) → id < n → Under n (l ++ u) → Goes names (canonicalize_inner p t v id l u pol)
    unfolding canonicalize_inner
    goes_inner id l u pol h w =
        let bs = bounds_of pol l u in
        let k : Under n bs = bounds_known n pol l u w in
        let cs = filter (λ (c : ℕ). not (is_variable (t c))) bs in
        goes_named (λ (c : ℕ). v c pol) (note (p.rep id) pol >>= (λ _. variable_rule p t v id pol bs cs)) (l ++ u)
        (λ c i. mv c pol i)
        (goes_bind names (note (p.rep id) pol) _ (λ st f. gives f tt) (λ _. goes_variable_rule id pol bs cs h k (filter_under _ n bs k))) w

    -- sets keep their keys
    runs_types : (pol : Polarity) (fs : List Field) → Under n (field_types fs) → Runs names (λ (gs : List Field). field_keys gs ≡ field_keys fs) (fields_rule v pol fs)
    runs_types pol [] u = runs_give names (λ (gs : List Field). field_keys gs ≡ []) [] refl
    runs_types pol (c ∷ fs) u =
        runs_bind names (Any names) (λ (gs : List Field). field_keys gs ≡ field_keys (c ∷ fs)) (v c.type pol) _ (mv c.type pol u.0)
        (λ x _. runs_bind names (λ (gs : List Field). field_keys gs ≡ field_keys fs) (λ (gs : List Field). field_keys gs ≡ field_keys (c ∷ fs)) (fields_rule v pol fs) _ (runs_types pol fs u.1)
        (λ gs e. runs_give names (λ (gs : List Field). field_keys gs ≡ field_keys (c ∷ fs)) (record { key = c.key; type = x } ∷ gs) (ap (λ (ks : List ℕ). c.key ∷ ks) e)))

    goes_dyn_rule : (pol : Polarity) (d : Option ℕ) → Under n (dyn_ids d) → Goes names (dyn_rule v pol d)
    goes_dyn_rule pol none u = goes_give names none
    goes_dyn_rule pol (some d) u = goes_bind names (v d pol) _ (mv d pol u.0) (λ x. goes_give names (some x))

    formed_same : (a : Attr) (gs : List Field) {d : Option ℕ} → field_keys gs ≡ field_keys a.fields → FormedSet names a
        → FormedSet names (record { fields = gs; dyn = d; is_open = a.is_open; optional = a.optional })
    formed_same a gs e f =
        record { ascend = ap ascending e ∙ f.ascend; named = subst (Under names) (sym e) f.named; optionals = f.optionals; others = f.others; opens = f.opens }

    goes_set : (a : Attr) (pol : Polarity) → Under n (field_types a.fields ++ dyn_ids a.dyn) → FormedSet names a
        → Goes names (fields_rule v pol a.fields >>=
        (λ (fs : List Field). dyn_rule v pol a.dyn >>=
        (λ (d : Option ℕ). store (AttrSet (record { fields = fs; dyn = d; is_open = a.is_open; optional = a.optional })))))
    goes_set a pol u f =
        runs_bind names (λ (gs : List Field). field_keys gs ≡ field_keys a.fields) (Any names) (fields_rule v pol a.fields) _
        (runs_types pol a.fields (under_front n (field_types a.fields) (dyn_ids a.dyn) u))
        (λ gs e. goes_bind names (dyn_rule v pol a.dyn) _ (goes_dyn_rule pol a.dyn (under_back n (field_types a.fields) (dyn_ids a.dyn) u))
        (λ d. goes_store names _ (λ _. formed_same a gs e f)))

    -- intersections and unions
    goes_retry : (x y : ℕ) (pol : Polarity) (ys : List ℕ) → x < n → y < n → Goes names (inter_retry p t v x y pol ys)
    unfolding inter_retry
    goes_retry x y pol ys h i =
        goes_bind names (v x (turned (t x) pol)) _ (mv x (turned (t x) pol) h)
        (λ a. goes_bind names (v y (turned (t y) pol)) _ (mv y (turned (t y) pol) i)
        (λ c. goes_bind names (flattened intersection_kind (a ∷ c ∷ [])) _ (goes_flattened names intersection_kind (a ∷ c ∷ []))
        (λ zs. goes_bind names (concrete_of p zs) _ (goes_ask names _)
        (λ ms. goes_bind names (simplify_union_neg_intersection p.functor ms) _ (goes_simplify names p.functor ms)
        (λ simple st. goes_if names (has_type_contradiction p.functor st.nodes simple) (λ _. store Bottom) (λ _. inter_rest p pol ys simple)
        (goes_bottom names) (goes_inter_rest names p pol ys simple) st)))))

    goes_inter : (x y : ℕ) (pol : Polarity) → x < n → y < n → Goes names (inter_rule p t v x y pol)
    unfolding inter_rule
    goes_inter x y pol h i =
        goes_bind names (v x pol) _ (mv x pol h)
        (λ a. goes_bind names (v y pol) _ (mv y pol i)
        (λ c. goes_bind names (flattened intersection_kind (a ∷ c ∷ [])) _ (goes_flattened names intersection_kind (a ∷ c ∷ []))
        (λ ys. goes_bind names (concrete_of p ys) _ (goes_ask names _)
        (λ ms st. goes_if names (has_type_contradiction p.functor st.nodes ms)
        (λ _. if (is_variable (t x) || is_variable (t y)) (λ _. inter_retry p t v x y pol ys) (λ _. store Bottom)) (λ _. inter_rest p pol ys ms)
        (goes_if names (is_variable (t x) || is_variable (t y)) _ _ (goes_retry x y pol ys h i) (goes_bottom names))
        (goes_inter_rest names p pol ys ms) st))))

    goes_union_rule : (x y : ℕ) (pol : Polarity) → x < n → y < n → Goes names (union_rule p v x y pol)
    unfolding union_rule
    goes_union_rule x y pol h i =
        goes_bind names (v x pol) _ (mv x pol h)
        (λ a. goes_bind names (v y pol) _ (mv y pol i)
        (λ c. goes_bind names (flattened union_kind (a ∷ c ∷ [])) _ (goes_flattened names union_kind (a ∷ c ∷ []))
        (λ ys. goes_bind names (concrete_of p ys) _ (goes_ask names _)
        (λ ms. goes_bind names (union_normalized pol ms) _ (goes_union_normalized names pol ms)
        (λ xs. goes_settle names (top_if_emptied pol ms) (first_member ys) Union xs (λ zs h. h) (goes_first_of names ys))))))

    -- an entry
    goes_rule : (id : ℕ) (e : Entry) (pol : Polarity) → id < n → Under n (kids e) → FormedEntry names e → Goes names (rule p t v id e pol)
    unfolding rule
    goes_rule id (var l u) pol h k o = goes_inner id l u pol h k
    goes_rule id (prim c) pol h k o = goes_store names (Primitive c) (λ _. o)
    goes_rule id (tyvar x) pol h k o = goes_variable x o
    goes_rule id (list a) pol h k o = goes_bind names (v a pol) _ (mv a pol k.0) (λ x. goes_store names (ListOf x) (λ _. tt))
    goes_rule id (fn a c) pol h k o =
        goes_bind names (v a (flip pol)) _ (mv a (flip pol) k.0)
        (λ x. goes_bind names (v c pol) _ (mv c pol k.1.0) (λ y. goes_store names (Lambda x y) (λ _. tt)))
    goes_rule id (set a) pol h k o = goes_set a pol k o
    goes_rule id (neg a) pol h k o = goes_bind names (v a (flip pol)) _ (mv a (flip pol) k.0) (λ x. goes_negate names x)
    goes_rule id (named m a) pol h k o = goes_bind names (v a pol) _ (mv a pol k.0) (λ x. goes_store names (Named m x) (λ _. o))
    goes_rule id (inter a c) pol h k o = goes_inter a c pol k.0 k.1.0
    goes_rule id (union a c) pol h k o = goes_union_rule a c pol k.0 k.1.0
    goes_rule id frozen pol h k o = absurd o

    goes_work : (id : ℕ) (pol : Polarity) → id < n → Goes names (work p t v id pol)
    goes_work id pol h =
        goes_bind names (set_key (slot id pol) 1) _ (λ st f. gives f tt)
        (λ _. goes_bind names (rule p t v id (t id) pol) _ (goes_rule id (t id) pol h (b.tabled.known id h) (b.entries id h))
        (λ x. goes_bind names (set_key (slot id pol) (x + 2)) _ (λ st f. gives f tt) (λ _. goes_give names x)))

  -- a visit: what it finds, or what it works out
  goes_look : (id : ℕ) (w : Run ℕ) (k : ℕ) → id < n → Goes names w → Goes names (look p id w k)
  goes_look id w zero h g = g
  goes_look id w (suc zero) h g = known_variable id h
  goes_look id w (suc (suc x)) h g = goes_give names x

  goes_entered : (id : ℕ) (pol : Polarity) (w : Run ℕ) → id < n → Goes names w → Goes names (entered p id pol w)
  unfolding entered
  goes_entered id pol w h g =
      goes_bind names has_bailed _ (λ st f. gives f tt)
      (λ bailed. goes_if names bailed _ _ (known_variable id h)
      (goes_bind names count_one _ (λ st f. gives f tt)
      (λ _. goes_bind names (check_budget p) _ (λ st f. gives f tt)
      (λ over. goes_if names over (λ _. variable p id) (λ _. key_at (slot id pol) >>= look p id w) (known_variable id h)
      (goes_bind names (key_at (slot id pol)) _ (λ st f. gives f tt) (λ k. goes_look id w k h g))))))

  visit_goes : (f : ℕ) → Goer (visit f p t)
  unfolding visit
  visit_goes zero id pol h = goes_entered id pol (refuse 6) h (λ st f. stops (omega arith, omega arith))
  visit_goes (suc f) id pol h = goes_entered id pol (work p t (visit f p t) id pol) h (goes_work (visit f p t) (visit_goes f) id pol h)

  pass_tells : (id : ℕ) (pol : Polarity) → id < n → Tells names (Any names) (pass p t id pol)
  unfolding pass
  pass_tells id pol h = visit_goes most_keys id pol h (fresh n) (fine_none names)

-- what a pass comes to: a node among nodes in form, or a refusal
pub record Passed (names : ℕ) (x : ℕ) (st : State) : Type 0 where
  pub fine : Fine names st.nodes
  pub rooted : Rooted st.nodes
  pub below : x < length st.nodes
  pub ops : st.ops ≤ most_operations

-- and an answer
pub record ShownFormed (names passes ops : ℕ) (ns : List Node) (x : ℕ) : Type 0 where
  pub once : 1 ≤ passes
  pub twice : passes ≤ 2
  pub counted : ops ≤ greatest
  pub formed : (y : ℕ) → Formed names (node_at ns y)
  pub few : length ns ≤ most_nodes
  pub rooted : Rooted ns
  pub below : x < length ns

abbrev pub ShowsFormed : ℕ → Shown → Type 0
ShowsFormed names a = ShownFormed names a.passes a.operations a.nodes a.root

-- what is shown is so, or the root is refused with 6 to 9
pub data Answers (Is : Shown → Type 0) : Answer → Type 0 where
  shows : {a : Shown} → Is a → Answers Is (shown a)
  stops : {k : ℕ} → RunNumber k → Answers Is (refused_with k)

-- in form, and no two nodes are equal
abbrev pub ShowsStored : ℕ → Shown → Type 0
ShowsStored names a = ShowsFormed names a × Distinct a.nodes

module _ (names : ℕ) (t : Reader) (id : ℕ) (pol : Polarity) where
  passed : (p : Pass) → FormedPass names p t → id < p.count → (x : ℕ) (st : State) → pass p t id pol ≡ ok x st → Fine names st.nodes → Passed names x st
  unfolding pass
  passed p b h x st e f =
      let m = visit_moves p t b.tabled most_keys id pol (fresh p.count) x st h (steady_fresh p.count) rooted_none e in
      record { fine = f; rooted = m.2; below = m.1; ops = m.0.counted (omega arith) }

  shown_stored : {x : ℕ} {st : State} (passes ops : ℕ) → 1 ≤ passes → passes ≤ 2 → ops ≤ greatest → Passed names x st
      → ShownFormed names passes ops st.nodes x × Distinct st.nodes
  shown_stored passes ops a b c q =
      let f = q.fine in
      (record { once = a; twice = b; counted = c; formed = f.formed; few = f.few; rooted = q.rooted; below = q.below }, f.distinct)

  after_second_lem : (p : Pass) → FormedPass names p t → id < p.count → (ops : ℕ) → ops ≤ most_operations → (sorted bailed : Bool) (o : Out ℕ) → pass p t id pol ≡ o
      → Tells names (Any names) o → Answers (ShowsStored names) (after_second ops sorted bailed o)
  after_second_lem p b h ops l sorted bailed (ok x st) e (gives f _) =
      let q = passed p b h x st e f in
      shows {a = record { passes = 2; operations = ops + st.ops; sorted = sorted || st.sorted; bailed = bailed || st.bailed; nodes = st.nodes; root = x }}
      (shown_stored 2 (ops + st.ops) (omega arith) (omega arith) (omega (arith, q.ops)) q)
  after_second_lem p b h ops l sorted bailed (no k) e (stops r) = stops r

  -- the second pass is over the same table
  formed_again : (p : Pass) (st : State) → FormedPass names p t → FormedPass names (with_set p st) t
  formed_again p st b =
      record {
        tabled = record { few = b.tabled.few; known = b.tabled.known; orderly = b.tabled.orderly; reps = b.tabled.reps; ids = b.tabled.ids };
        reps = b.reps;
        entries = b.entries;
      }

  after_first_lem : (p : Pass) → FormedPass names p t → id < p.count → (o : Out ℕ) → pass p t id pol ≡ o → Tells names (Any names) o → Answers (ShowsStored names) (after_first p t id pol o)
  after_first_lem p b h (ok x st) e (gives f _) =
      let q = passed p b h x st e f in
      let c = formed_again p st b in
      by_branch (Answers (ShowsStored names)) (any _ st.bits) _ _
      (after_second_lem (with_set p st) c h st.ops q.ops st.sorted st.bailed (pass (with_set p st) t id pol) refl (pass_tells names (with_set p st) t c id pol h))
      (shows {a = record { passes = 1; operations = st.ops; sorted = st.sorted; bailed = st.bailed; nodes = st.nodes; root = x }}
      (shown_stored 1 st.ops (omega arith) (omega arith) (omega (arith, q.ops)) q))
  after_first_lem p b h (no k) e (stops r) = stops r

  -- an answer is in form
  pub answer_formed : (p : Pass) → FormedPass names p t → id < p.count → Answers (ShowsStored names) (canonicalize p t id pol)
  unfolding canonicalize
  answer_formed p b h = after_first_lem p b h (pass p t id pol) refl (pass_tells names p t b id pol h)
