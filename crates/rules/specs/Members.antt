-- The member-list functions, each under the name of the Rust function that it is. Members are node numbers: equal nodes have one number.
use Rattle.std.specs.Prelude.{Bool, true, false, not, ◌||◌, ℕ, zero, suc, List, [], ◌∷◌, ◌++◌, length, eqb, ltb}
use Rattle.cells.specs.Part.{if}
use Rattle.rules.specs.Plain.{any, all, filter, contains, empty, add_new, both}
use Rattle.rules.specs.Table.{Field, Attr, field_keys}
use Rattle.rules.specs.Order.{sort}
use Rattle.rules.specs.Types.{Node, TyVar, Primitive, ListOf, Lambda, AttrSet, Union, Intersection, Named, Neg, Bottom, Top, kind_of, members}
use Rattle.rules.specs.Types.{as_attr, ok, Run, ◌>>=◌, give, ask, store, node_at, is, ty_var_kind, primitive_kind, list_kind, lambda_kind, attr_set_kind}
use Rattle.rules.specs.Types.{union_kind, neg_kind, bottom_kind, top_kind}
use Rattle.std.proofs.Math.Option.{Option, none, some}

abbrev pub members_at : List Node → ℕ → List ℕ
members_at ns x = members (node_at ns x)

-- PrimitiveTy::is_subtype_of: "Int and Float lie below Number and nothing else lies below anything"; 0 Int, 1 Float, 2 Number
unfoldable pub is_subtype_of : ℕ → ℕ → Bool
is_subtype_of a b = both (eqb b 2) (λ _. ltb a 2)

-- the negated members' inner nodes
abbrev pub inner_of : Node → List ℕ
inner_of (TyVar x) = []
inner_of (Primitive c) = []
inner_of (ListOf a) = []
inner_of (Lambda a b) = []
inner_of (AttrSet a) = []
inner_of (Union ms) = []
inner_of (Intersection ms) = []
inner_of (Named n a) = []
inner_of (Neg a) = a ∷ []
inner_of Bottom = []
inner_of Top = []

abbrev pub negated_inners : List Node → List ℕ → List ℕ
negated_inners ns [] = []
negated_inners ns (m ∷ ms) = inner_of (node_at ns m) ++ negated_inners ns ms

-- neither a Neg nor a TyVar, Bottom or Top
abbrev pub is_positive : List Node → ℕ → Bool
is_positive ns m = not (is ns neg_kind m || is ns ty_var_kind m || is ns bottom_kind m || is ns top_kind m)

-- a known constructor
abbrev pub is_concrete : List Node → ℕ → Bool
is_concrete ns m = is ns primitive_kind m || is ns attr_set_kind m || is ns list_kind m || is ns lambda_kind m

-- the members that are none of xs
abbrev pub without : List ℕ → List ℕ → List ℕ
without xs ms = filter (λ (m : ℕ). not (contains xs m)) ms

abbrev pub add_all : List ℕ → List ℕ → List ℕ
add_all got [] = got
add_all got (x ∷ xs) = add_all (add_new got x) xs

-- the members of m where m nests, m itself where it does not; none twice
abbrev pub flatten_one : ℕ → List Node → List ℕ → ℕ → List ℕ
flatten_one k ns got m = if (is ns k m) (λ _. add_all got (members_at ns m)) (λ _. add_new got m)

abbrev pub flatten_into : ℕ → List Node → List ℕ → List ℕ → List ℕ
flatten_into k ns got [] = got
flatten_into k ns got (m ∷ ms) = flatten_into k ns (flatten_one k ns got m) ms

-- flatten_composite, for the kind k that nests: unions in a union, intersections in an intersection. One level deep.
-- "Flattening returns at once, duplicates kept, for more than 64 members with none nested"
unfoldable pub flatten_composite : ℕ → List Node → List ℕ → List ℕ
flatten_composite k ns ms =
    if (both (not (any (is ns k) ms)) (λ _. ltb 64 (length ms))) (λ _. ms) (λ _. flatten_into k ns [] ms)

-- ConstructorShape
pub data Shape : Type 0 where
  primitive_s : ℕ → Shape
  attr_set_s : Attr → Shape
  list_s : Shape
  lambda_s : Shape
  opaque_s : Shape

abbrev pub shape_of : Node → Shape
shape_of (TyVar x) = opaque_s
shape_of (Primitive c) = primitive_s c
shape_of (ListOf a) = list_s
shape_of (Lambda a b) = lambda_s
shape_of (AttrSet a) = attr_set_s a
shape_of (Union ms) = opaque_s
shape_of (Intersection ms) = opaque_s
shape_of (Named n a) = opaque_s
shape_of (Neg a) = opaque_s
shape_of Bottom = opaque_s
shape_of Top = opaque_s

-- a is closed, and b requires a field that a lacks
abbrev pub lacks : Attr → Attr → Bool
lacks a b =
    both (eqb a.is_open 0)
    (λ _. any (λ (k : ℕ). not (contains (field_keys a.fields) k || contains b.optional k)) (field_keys b.fields))

abbrev pub primitives_disjoint : ℕ → ℕ → Bool
primitives_disjoint a b = not (eqb a b || is_subtype_of a b || is_subtype_of b a)

-- are_shapes_disjoint; functor is the number of the name `__functor`. "Two sets: one closed and the other requiring a field it lacks.
-- Set and lambda: disjoint unless the set has `__functor`"
unfoldable pub are_shapes_disjoint : ℕ → Shape → Shape → Bool
are_shapes_disjoint functor (primitive_s a) (primitive_s b) = primitives_disjoint a b
are_shapes_disjoint functor (primitive_s a) (attr_set_s b) = true
are_shapes_disjoint functor (primitive_s a) list_s = true
are_shapes_disjoint functor (primitive_s a) lambda_s = true
are_shapes_disjoint functor (primitive_s a) opaque_s = false
are_shapes_disjoint functor (attr_set_s a) (primitive_s b) = true
are_shapes_disjoint functor (attr_set_s a) (attr_set_s b) = lacks a b || lacks b a
are_shapes_disjoint functor (attr_set_s a) list_s = true
are_shapes_disjoint functor (attr_set_s a) lambda_s = not (contains (field_keys a.fields) functor)
are_shapes_disjoint functor (attr_set_s a) opaque_s = false
are_shapes_disjoint functor list_s (primitive_s b) = true
are_shapes_disjoint functor list_s (attr_set_s b) = true
are_shapes_disjoint functor list_s list_s = false
are_shapes_disjoint functor list_s lambda_s = true
are_shapes_disjoint functor list_s opaque_s = false
are_shapes_disjoint functor lambda_s (primitive_s b) = true
are_shapes_disjoint functor lambda_s (attr_set_s b) = not (contains (field_keys b.fields) functor)
are_shapes_disjoint functor lambda_s list_s = true
are_shapes_disjoint functor lambda_s lambda_s = false
are_shapes_disjoint functor lambda_s opaque_s = false
are_shapes_disjoint functor opaque_s (primitive_s b) = false
are_shapes_disjoint functor opaque_s (attr_set_s b) = false
are_shapes_disjoint functor opaque_s list_s = false
are_shapes_disjoint functor opaque_s lambda_s = false
are_shapes_disjoint functor opaque_s opaque_s = false

-- are_output_types_disjoint
unfoldable pub are_output_types_disjoint : ℕ → List Node → ℕ → ℕ → Bool
are_output_types_disjoint functor ns a b = are_shapes_disjoint functor (shape_of (node_at ns a)) (shape_of (node_at ns b))

abbrev pub primitives_below : Shape → Shape → Bool
primitives_below (primitive_s a) (primitive_s b) = is_subtype_of a b
primitives_below (primitive_s a) (attr_set_s b) = false
primitives_below (primitive_s a) list_s = false
primitives_below (primitive_s a) lambda_s = false
primitives_below (primitive_s a) opaque_s = false
primitives_below (attr_set_s a) s = false
primitives_below list_s s = false
primitives_below lambda_s s = false
primitives_below opaque_s s = false

-- is_output_subtype_or_equal
unfoldable pub is_output_subtype_or_equal : List Node → ℕ → ℕ → Bool
is_output_subtype_or_equal ns a b = eqb a b || primitives_below (shape_of (node_at ns a)) (shape_of (node_at ns b))

-- m is one half of a pair: a positive whose negation is a member, or the negation of a positive member
abbrev pub cancelled : List Node → List ℕ → List ℕ → ℕ → Bool
cancelled ns positives negs m =
    both (is_positive ns m) (λ _. contains negs m) || any (contains positives) (inner_of (node_at ns m))

-- remove_tautological_pairs: "A cancelled pair beside a third member just goes"
unfoldable pub remove_tautological_pairs : List Node → List ℕ → List ℕ
remove_tautological_pairs ns ms = filter (λ (m : ℕ). not (cancelled ns (filter (is_positive ns) ms) (negated_inners ns ms) m)) ms

-- a set without dyn, or both with the same
abbrev pub no_dyn_or_same : Option ℕ → Option ℕ → Bool
no_dyn_or_same none d = true
no_dyn_or_same (some a) none = false
no_dyn_or_same (some a) (some b) = eqb a b

-- open a takes up open b: a has no dyn or b's, and each required field of a is in b
abbrev pub subsumes : Attr → Attr → Bool
subsumes a b =
    both (both (eqb a.is_open 1) (λ _. eqb b.is_open 1))
    (λ _. both (no_dyn_or_same a.dyn b.dyn)
    (λ _. all (λ (k : ℕ). contains a.optional k || contains (field_keys b.fields) k) (field_keys a.fields)))

abbrev pub subsumes_node : Attr → Option Attr → Bool
subsumes_node a none = false
subsumes_node a (some b) = subsumes a b

-- the places taken up, with those that the set a at place i takes up; j is the place of the first of ms
abbrev pub taken_by : List Node → ℕ → Attr → List ℕ → ℕ → List ℕ → List ℕ
taken_by ns i a gone j [] = gone
taken_by ns i a gone j (m ∷ ms) =
    taken_by ns i a
    (if (both (not (eqb i j || contains gone j)) (λ _. subsumes_node a (as_attr (node_at ns m)))) (λ _. gone ++ (j ∷ [])) (λ _. gone))
    (suc j) ms

abbrev pub taken_by_node : List Node → List ℕ → List ℕ → ℕ → Option Attr → List ℕ
taken_by_node ns whole gone i none = gone
taken_by_node ns whole gone i (some a) = if (contains gone i) (λ _. gone) (λ _. taken_by ns i a gone 0 whole)

abbrev pub taken_up : List Node → List ℕ → List ℕ → ℕ → List ℕ → List ℕ
taken_up ns whole gone i [] = gone
taken_up ns whole gone i (m ∷ ms) = taken_up ns whole (taken_by_node ns whole gone i (as_attr (node_at ns m))) (suc i) ms

-- the members whose places, counted from i, are not gone
abbrev pub left : List ℕ → ℕ → List ℕ → List ℕ
left gone i [] = []
left gone i (m ∷ ms) = if (contains gone i) (λ _. left gone (suc i) ms) (λ _. m ∷ left gone (suc i) ms)

-- absorb_subsumed_union_members
unfoldable pub absorb_subsumed_union_members : List Node → List ℕ → List ℕ
absorb_subsumed_union_members ns ms = left (taken_up ns ms [] 0 ms) 0 ms

-- "an earlier TyVar field gives way to the later"; two that differ are intersected
abbrev pub meet_types : ℕ → ℕ → Run ℕ
meet_types old new = do
  gives ← ask (λ (ns : List Node). is ns ty_var_kind old)
  if (gives || eqb old new) (λ _. give new) (λ _. store (Intersection (old ∷ new ∷ [])))

abbrev pub merge_field : Field → List Field → Run (List Field)
merge_field f [] = give (f ∷ [])
merge_field f (g ∷ gs) =
    if (ltb f.key g.key) (λ _. give (f ∷ g ∷ gs))
    (λ _. if (eqb f.key g.key)
    (λ _. do
      x ← meet_types g.type f.type
      give (record { key = g.key; type = x } ∷ gs))
    (λ _. do
      hs ← merge_field f gs
      give (g ∷ hs)))

abbrev pub merge_fields : List Field → List Field → Run (List Field)
merge_fields got [] = give got
merge_fields got (f ∷ fs) = do
  more ← merge_field f got
  merge_fields more fs

abbrev pub merge_dyn : Option ℕ → Option ℕ → Run (Option ℕ)
merge_dyn none new = give new
merge_dyn (some old) none = give (some old)
merge_dyn (some old) (some new) =
    if (eqb old new) (λ _. give (some old))
    (λ _. do
      x ← store (Intersection (old ∷ new ∷ []))
      give (some x))

-- fields and dyn of the sets, one after another: dyn first, then the fields in key order
abbrev pub merge_attrs : List Field → Option ℕ → List Attr → (List Field → Option ℕ → Run ℕ) → Run ℕ
merge_attrs fs d [] finish = finish fs d
merge_attrs fs d (a ∷ sets) finish = do
  d' ← merge_dyn d a.dyn
  fs' ← merge_fields fs a.fields
  merge_attrs fs' d' sets finish

-- "In a merge a key is optional only if optional in every set that has it"
abbrev pub optional_in_all : List Attr → ℕ → Bool
optional_in_all sets k = all (λ (a : Attr). not (contains (field_keys a.fields) k) || contains a.optional k) sets

abbrev pub open_if_all : List Attr → ℕ
open_if_all sets = if (all (λ (a : Attr). eqb a.is_open 1) sets) (λ _. 1) (λ _. 0)

abbrev pub attr_of : Option Attr → List Attr
attr_of none = []
attr_of (some a) = a ∷ []

abbrev pub attrs_of : List Node → List ℕ → List Attr
attrs_of ns [] = []
attrs_of ns (m ∷ ms) = attr_of (as_attr (node_at ns m)) ++ attrs_of ns ms

abbrev pub merged : List Attr → Run ℕ
merged sets =
    merge_attrs [] none sets
    (λ fs d. store (AttrSet (record { fields = fs; dyn = d; is_open = open_if_all sets; optional = filter (optional_in_all sets) (field_keys fs) })))

-- merge_attrset_intersection: the sets become one, last; one set alone is merged too
unfoldable pub merge_attrset_intersection : List ℕ → Run (List ℕ)
merge_attrset_intersection ms = do
  sets ← ask (λ (ns : List Node). attrs_of ns ms)
  others ← ask (λ (ns : List Node). filter (λ (m : ℕ). not (is ns attr_set_kind m)) ms)
  if (empty sets) (λ _. give ms)
      (λ _. do
        x ← merged sets
        give (others ++ (x ∷ [])))

-- remove_redundant_negations: a Neg goes if what it holds is disjoint from every member with a known constructor
unfoldable pub remove_redundant_negations : ℕ → List Node → List ℕ → List ℕ
remove_redundant_negations functor ns ms =
    if (empty (filter (is_concrete ns) ms)) (λ _. ms)
    (λ _. filter
    (λ (m : ℕ). not (any (λ (a : ℕ). all (λ (c : ℕ). are_output_types_disjoint functor ns c a) (filter (is_concrete ns) ms)) (inner_of (node_at ns m))))
    ms)

-- all of one kind, and that not a primitive
abbrev pub all_same_non_primitive : List Node → List ℕ → Bool
all_same_non_primitive ns [] = true
all_same_non_primitive ns (p ∷ ps) = both (not (is ns primitive_kind p)) (λ _. all (is ns (kind_of (node_at ns p))) ps)

abbrev pub disjoint_pair : ℕ → List Node → List ℕ → Bool
disjoint_pair functor ns [] = false
disjoint_pair functor ns (p ∷ ps) = if (any (are_output_types_disjoint functor ns p) ps) (λ _. true) (λ _. disjoint_pair functor ns ps)

abbrev pub subsumed_by_negation : List Node → List ℕ → Bool
subsumed_by_negation ns ms =
    any (λ (p : ℕ). any (is_output_subtype_or_equal ns p) (negated_inners ns ms)) (filter (is_positive ns) ms)

-- has_type_contradiction: a positive beside a Neg that holds it or a wider primitive; or two disjoint positives, looked for unless all
-- are of one kind other than prim ("two closed sets with different fields, no other constructor beside them", are none)
unfoldable pub has_type_contradiction : ℕ → List Node → List ℕ → Bool
has_type_contradiction functor ns ms =
    if (subsumed_by_negation ns ms) (λ _. true)
    (λ _. both (not (all_same_non_primitive ns (filter (is_positive ns) ms))) (λ _. disjoint_pair functor ns (filter (is_positive ns) ms)))

-- nothing of nothing, a sole member itself, more as one stored node
abbrev pub sole : (List ℕ → Node) → List ℕ → Run (List ℕ)
sole wrap [] = give []
sole wrap (x ∷ []) = give (x ∷ [])
sole wrap (x ∷ y ∷ xs) = do
  z ← store (wrap (x ∷ y ∷ xs))
  give (z ∷ [])

-- the members of m that no negated type takes
abbrev pub spared : List Node → List ℕ → ℕ → List ℕ
spared ns negs m = filter (λ (u : ℕ). not (any (is_output_subtype_or_equal ns u) negs)) (members_at ns m)

abbrev pub simplify_one : List ℕ → ℕ → Run (List ℕ)
simplify_one negs m = do
  isUnion ← ask (λ (ns : List Node). is ns union_kind m)
  rest ← ask (λ (ns : List Node). spared ns negs m)
  if isUnion (λ _. sole Union rest) (λ _. give (m ∷ []))

abbrev pub simplify_each : List ℕ → List ℕ → Run (List ℕ)
simplify_each negs [] = give []
simplify_each negs (m ∷ ms) = do
  x ← simplify_one negs m
  xs ← simplify_each negs ms
  give (x ++ xs)

abbrev pub takes_some : List Node → List ℕ → ℕ → Bool
takes_some ns negs m = both (is ns union_kind m) (λ _. ltb (length (spared ns negs m)) (length (members_at ns m)))

-- simplify_union_neg_intersection. A union wholly taken leaves nothing
unfoldable pub simplify_union_neg_intersection : ℕ → List ℕ → Run (List ℕ)
simplify_union_neg_intersection functor ms = do
  negs ← ask (λ (ns : List Node). negated_inners ns ms)
  unions ← ask (λ (ns : List Node). any (is ns union_kind) ms)
  changed ← ask (λ (ns : List Node). any (takes_some ns negs) ms)
  if (empty negs) (λ _. give ms)
      (λ _. if (not unions) (λ _. ask (λ (ns : List Node). remove_redundant_negations functor ns ms))
      (λ _. do
        xs ← simplify_each negs ms
        if changed
            (λ _. ask (λ (ns : List Node). remove_redundant_negations functor ns (filter (λ (m : ℕ). not (is ns bottom_kind m)) xs)))
            (λ _. give xs)))

-- "sorted (1 if in either pass factoring shared two or more members)"
abbrev pub mark_sorted : List ℕ → Run (Unit {0})
mark_sorted xs = λ s.
    ok tt (record {
      nodes = s.nodes;
      cells = s.cells;
      keys = s.keys;
      bits = s.bits;
      ops = s.ops;
      sorted = s.sorted || ltb 1 (length xs);
      bailed = s.bailed;
    })

-- each union without the shared members
abbrev pub remainders : List ℕ → List ℕ → Run (List ℕ)
remainders shared [] = give []
remainders shared (u ∷ us) = do
  rest ← ask (λ (ns : List Node). without shared (members_at ns u))
  x ← sole Union rest
  xs ← remainders shared us
  give (x ++ xs)

abbrev pub factored : List ℕ → List ℕ → List ℕ → Run (List ℕ)
factored others us [] = give (others ++ us)
factored others us (s ∷ ss) = do
  rests ← remainders (s ∷ ss) us
  shared ← ask (λ (ns : List Node). sort ns (s ∷ ss))
  _ ← mark_sorted shared
  inner ← sole Intersection (rests ++ others)
  sole Union (shared ++ inner)

-- "Factoring with one union moves it last and unwraps one member"
abbrev pub factor_unions : List ℕ → List ℕ → Run (List ℕ)
factor_unions others [] = give others
factor_unions others (u ∷ []) = do
  ms ← ask (λ (ns : List Node). members_at ns u)
  x ← sole Union ms
  give (others ++ x)
factor_unions others (u ∷ w ∷ us) = do
  shared ← ask (λ (ns : List Node). filter (λ (m : ℕ). all (λ (z : ℕ). contains (members_at ns z) m) (w ∷ us)) (members_at ns u))
  factored others (u ∷ w ∷ us) shared

-- factor_shared_from_intersection
unfoldable pub factor_shared_from_intersection : List ℕ → Run (List ℕ)
factor_shared_from_intersection ms = do
  us ← ask (λ (ns : List Node). filter (is ns union_kind) ms)
  others ← ask (λ (ns : List Node). filter (λ (m : ℕ). not (is ns union_kind m)) ms)
  factor_unions others us

-- the members one after another, each answer kept
abbrev pub each : (ℕ → Run ℕ) → List ℕ → Run (List ℕ)
each f [] = give []
each f (m ∷ ms) = do
  x ← f m
  xs ← each f ms
  give (x ∷ xs)

-- what negation makes of a node, given the negation of its members
abbrev pub negate_node : (ℕ → Run ℕ) → ℕ → Node → Run ℕ
negate_node f x (TyVar a) = store (Neg x)
negate_node f x (Primitive c) = store (Neg x)
negate_node f x (ListOf a) = store (Neg x)
negate_node f x (Lambda a b) = store (Neg x)
negate_node f x (AttrSet a) = store (Neg x)
negate_node f x (Union ms) = do
  xs ← each f ms
  store (Intersection xs)
negate_node f x (Intersection ms) = do
  xs ← each f ms
  store (Union xs)
negate_node f x (Named n a) = store (Neg x)
negate_node f x (Neg a) = give a
negate_node f x Bottom = store (Neg x)
negate_node f x Top = store (Neg x)

-- through f levels: the members of a node have smaller numbers, so node x needs no more than x + 1
abbrev pub negate_by : ℕ → ℕ → Run ℕ
negate_by zero x = give x
negate_by (suc f) x = do
  node ← ask (λ (ns : List Node). node_at ns x)
  negate_node (negate_by f) x node

-- negate_output_ty: "Negation calls itself on the members of unions and intersections, takes Neg off, and wraps anything else"
unfoldable pub negate_output_ty : ℕ → Run ℕ
negate_output_ty x = negate_by (suc x) x
