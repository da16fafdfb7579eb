-- The run: visit, concrete rule and bound expansion with its fallback, the two passes, the root's answer.
-- A rule takes the pass p, the reader t of entries and the visitor v; only `visit` recurses, on the number of free keys.
use Rattle.std.specs.Prelude.{Bool, true, false, not, ◌||◌, ℕ, zero, suc, ◌+◌, ◌*◌, ◌%◌, List, [], ◌∷◌, ◌++◌, length, get_or, set as set_at, replicate, eqb, ltb}
use Rattle.cells.specs.Part.{if, cell, eq_list}
use Rattle.rules.specs.Plain.{ascii, any, filter, empty, both, position}
use Rattle.rules.specs.Ceilings.{most_keys, most_operations}
use Rattle.rules.specs.Table.{Field, Entry, var, prim, tyvar, list, fn, set, neg, named, inter, union, frozen, entry_of, entry_kind, var_entry}
use Rattle.rules.specs.Table.{prim_entry, named_entry, Table, representatives, rep_in}
use Rattle.rules.specs.Types.{Node, TyVar, Primitive, ListOf, Lambda, AttrSet, Union, Intersection, Named, Neg, Bottom, Top, flip, sign}
use Rattle.rules.specs.Types.{positive, State, Out, ok, no, Run, ◌>>=◌, give, refuse, ask, store, limit, node_at, is, ty_var_kind, union_kind}
use Rattle.rules.specs.Types.{intersection_kind, bottom_kind}
use Rattle.rules.specs.Members.{add_all, each, flatten_composite, remove_tautological_pairs, absorb_subsumed_union_members}
use Rattle.rules.specs.Members.{merge_attrset_intersection, remove_redundant_negations, has_type_contradiction, simplify_union_neg_intersection}
use Rattle.rules.specs.Members.{factor_shared_from_intersection, negate_output_ty}
use Rattle.rules.specs.declared.Polarity.{Polarity}
use Rattle.rules.specs.declared.Polarity.TheVariants.{Positive, Negative}
use Rattle.std.proofs.Math.Option.{Option, none, some}

-- what a pass is given: the entry count, representatives, marks, the set of variables that it preserves (the first's is empty), the
-- budget, the operations of the pass before it, and the number of the name `__functor`
pub record Pass : Type 0 where
  pub count : ℕ
  pub rep : ℕ → ℕ
  pub marked : ℕ → Bool
  pub preserved : ℕ → Bool
  pub budget : ℕ
  pub spent : ℕ
  pub functor : ℕ

abbrev pub Reader : Type 0
Reader = ℕ → Entry

abbrev pub Visit : Type 0
Visit = ℕ → Polarity → Run ℕ

-- TyVar(rep)
abbrev pub variable : Pass → ℕ → Run ℕ
variable p id = store (TyVar (p.rep id))

-- PolarityBits: bit 0 positive, bit 1 negative
abbrev pub add_bit : ℕ → Polarity → ℕ
add_bit b Positive = if (eqb (b % 2) 0) (λ _. b + 1) (λ _. b)
add_bit b Negative = if (ltb b 2) (λ _. b + 2) (λ _. b)

abbrev pub is_both : ℕ → Bool
is_both b = eqb b 3

-- "its polarity is noted", at its representative
abbrev pub note : ℕ → Polarity → Run (Unit {0})
note r pol = λ s.
    ok tt (record {
      nodes = s.nodes;
      cells = s.cells;
      keys = s.keys;
      bits = set_at s.bits r (add_bit (cell s.bits r) pol);
      ops = s.ops;
      sorted = s.sorted;
      bailed = s.bailed;
    })

abbrev pub has_bailed : Run Bool
has_bailed = λ s. ok s.bailed s

-- up to a ceiling that is ours (D25)
abbrev pub tick : ℕ → ℕ
tick n = if (ltb n most_operations) (λ _. suc n) (λ _. n)

-- "Count one operation"
abbrev pub count_one : Run (Unit {0})
count_one = λ s.
    ok tt (record { nodes = s.nodes; cells = s.cells; keys = s.keys; bits = s.bits; ops = tick s.ops; sorted = s.sorted; bailed = s.bailed })

-- "If the pass's count is a multiple of 512 and the operations of both passes so far exceed the budget, bail"
abbrev pub exceeds : Pass → ℕ → Bool
exceeds p ops = both (eqb (ops % 512) 0) (λ _. ltb p.budget (p.spent + ops))

abbrev pub check_budget : Pass → Run Bool
check_budget p = λ s.
    ok (exceeds p s.ops) (record {
      nodes = s.nodes;
      cells = s.cells;
      keys = s.keys;
      bits = s.bits;
      ops = s.ops;
      sorted = s.sorted;
      bailed = exceeds p s.ops;
    })

abbrev pub slot : ℕ → Polarity → ℕ
slot id pol = 2 * id + sign pol

abbrev pub key_at : ℕ → Run ℕ
key_at k = λ s. ok (cell s.keys k) s

abbrev pub set_key : ℕ → ℕ → Run (Unit {0})
set_key k x = λ s.
    ok tt (record { nodes = s.nodes; cells = s.cells; keys = set_at s.keys k x; bits = s.bits; ops = s.ops; sorted = s.sorted; bailed = s.bailed })

-- should_drop_filler: "A filler is Bottom, Top, or a TyVar of n or more, or one not in the pass's set"
abbrev pub drops_node : Pass → Node → Bool
drops_node p (TyVar x) = not (both (ltb x p.count) (λ _. p.preserved x))
drops_node p (Primitive c) = false
drops_node p (ListOf a) = false
drops_node p (Lambda a b) = false
drops_node p (AttrSet a) = false
drops_node p (Union ms) = false
drops_node p (Intersection ms) = false
drops_node p (Named n a) = false
drops_node p (Neg a) = false
drops_node p Bottom = true
drops_node p Top = true

abbrev pub should_drop_filler : Pass → List Node → ℕ → Bool
should_drop_filler p ns m = drops_node p (node_at ns m)

abbrev pub concrete_of : Pass → List ℕ → Run (List ℕ)
concrete_of p ms = ask (λ (ns : List Node). filter (λ (m : ℕ). not (should_drop_filler p ns m)) ms)

-- flatten_union and flatten_intersection, by kind; 7 on the list that goes in and on the list that comes out
abbrev pub flattened : ℕ → List ℕ → Run (List ℕ)
flattened k xs = do
  ms ← limit xs
  ys ← ask (λ (ns : List Node). flatten_composite k ns ms)
  limit ys

abbrev pub composite_kind : Polarity → ℕ
composite_kind Positive = union_kind
composite_kind Negative = intersection_kind

abbrev pub composite : Polarity → List ℕ → Node
composite Positive = Union
composite Negative = Intersection

-- the result of a list: Top where all members of a positive place cancelled, `rest` where there was none, a sole member, a composite
abbrev pub settle : Bool → Run ℕ → (List ℕ → Node) → List ℕ → Run ℕ
settle cancelled rest wrap [] = if cancelled (λ _. store Top) (λ _. rest)
settle cancelled rest wrap (x ∷ []) = give x
settle cancelled rest wrap (x ∷ y ∷ xs) = store (wrap (x ∷ y ∷ xs))

-- "All members cancelled in a positive place gives Top": there were some
abbrev pub top_if_emptied : Polarity → List ℕ → Bool
top_if_emptied pol ms = both (positive pol) (λ _. not (empty ms))

-- "Bounds are deduplicated by id only beyond 16"
abbrev pub deduplicated : List ℕ → List ℕ
deduplicated bs = if (ltb 16 (length bs)) (λ _. add_all [] bs) (λ _. bs)

-- expand_bounds, steps 4 and 5
abbrev pub normalized : Pass → Run ℕ → Polarity → List ℕ → Run ℕ
normalized p rest Positive ms = do
  xs ← ask (λ (ns : List Node). absorb_subsumed_union_members ns (remove_tautological_pairs ns ms))
  settle (top_if_emptied Positive ms) rest Union xs
normalized p rest Negative ms = do
  one ← merge_attrset_intersection ms
  xs ← ask (λ (ns : List Node). remove_redundant_negations p.functor ns one)
  contradicts ← ask (λ (ns : List Node). has_type_contradiction p.functor ns xs)
  if contradicts (λ _. store Bottom)
      (λ _. do
        ys ← factor_shared_from_intersection xs
        settle (top_if_emptied Negative ms) rest Intersection ys)

-- expand_bounds; rest is its fallback
unfoldable pub expand_bounds : Pass → Visit → Run ℕ → List ℕ → Polarity → Run ℕ
expand_bounds p v rest bs pol = do
  xs ← each (λ (b : ℕ). v b pol) (deduplicated bs)
  ys ← flattened (composite_kind pol) xs
  ms ← concrete_of p ys
  normalized p rest pol ms

abbrev pub is_variable : Entry → Bool
is_variable e = eqb (entry_kind e) var_entry

abbrev pub is_named : Entry → Bool
is_named e = eqb (entry_kind e) named_entry

abbrev pub is_prim : Entry → Bool
is_prim e = eqb (entry_kind e) prim_entry

abbrev pub negated : Entry → List ℕ
negated (var l u) = []
negated (prim c) = []
negated (tyvar x) = []
negated (list a) = []
negated (fn a b) = []
negated (set a) = []
negated (neg a) = a ∷ []
negated (named n a) = []
negated (inter a b) = []
negated (union a b) = []
negated frozen = []

-- a primitive, or the neg of a primitive entry
abbrev pub is_atom : Reader → Entry → Bool
is_atom t e = is_prim e || any (λ (a : ℕ). is_prim (t a)) (negated e)

-- the bounds of a variable
abbrev pub lowers : Entry → List ℕ
lowers (var l u) = l
lowers (prim c) = []
lowers (tyvar x) = []
lowers (list a) = []
lowers (fn a b) = []
lowers (set a) = []
lowers (neg a) = []
lowers (named n a) = []
lowers (inter a b) = []
lowers (union a b) = []
lowers frozen = []

abbrev pub uppers : Entry → List ℕ
uppers (var l u) = u
uppers (prim c) = []
uppers (tyvar x) = []
uppers (list a) = []
uppers (fn a b) = []
uppers (set a) = []
uppers (neg a) = []
uppers (named n a) = []
uppers (inter a b) = []
uppers (union a b) = []
uppers frozen = []

-- the list that a fallback begins: in a negative place the lowers, unless the variable or its representative is marked; in a positive
-- place the atoms among the uppers
abbrev pub begin_list : Pass → Reader → ℕ → Polarity → List ℕ
begin_list p t id Negative = if (p.marked id || p.marked (p.rep id)) (λ _. []) (λ _. lowers (t id))
begin_list p t id Positive = filter (λ (b : ℕ). is_atom t (t b)) (uppers (t id))

-- which lists of a chain fallbacks began after the bail
pub record Begun : Type 0 where
  pub lower : Bool
  pub upper : Bool

abbrev pub began : Begun → Polarity → Bool
began g Negative = g.lower
began g Positive = g.upper

abbrev pub begin : Bool → Begun → Polarity → Begun
begin bailed g Negative = record { lower = g.lower || bailed; upper = g.upper }
begin bailed g Positive = record { lower = g.lower; upper = g.upper || bailed }

-- expand_bounds_empty_fallback. "In one chain fallbacks begin each list at most once after the bail (the variable's own rule isn't
-- counted); a second begin answers TyVar(rep)". A chain has four begins at most: two before the bail and two after it,
-- so that c = 4 is no bound: with more nothing else comes out (the law `chain_visits` in crates/laws/proofs/Chaining.antt)
unfoldable pub expand_bounds_empty_fallback : ℕ → Pass → Reader → Visit → Begun → ℕ → Polarity → Run ℕ
expand_bounds_empty_fallback zero p t v g id pol = variable p id
expand_bounds_empty_fallback (suc c) p t v g id pol = do
  bailed ← has_bailed
  if (empty (begin_list p t id pol) || both bailed (λ _. began g pol)) (λ _. variable p id)
      (λ _. expand_bounds p v (expand_bounds_empty_fallback c p t v (begin bailed g pol) id (flip pol)) (begin_list p t id pol) (flip pol))

abbrev pub chain : ℕ
chain = 4

-- the expansion of a variable's own list, with its fallback
abbrev pub expansion : Pass → Reader → Visit → ℕ → List ℕ → Polarity → Run ℕ
expansion p t v id bs pol =
    expand_bounds p v (expand_bounds_empty_fallback chain p t v (record { lower = false; upper = false }) id pol) bs pol

-- the bounds of a place
abbrev pub bounds_of : Polarity → List ℕ → List ℕ → List ℕ
bounds_of Positive l u = l
bounds_of Negative l u = u

-- a variable of the pass's set stays beside what its bounds expand to, unless that is a TyVar or Bottom
abbrev pub preserving : Pass → ℕ → Polarity → ℕ → Run ℕ
preserving p id pol x = do
  nothing ← ask (λ (ns : List Node). is ns ty_var_kind x || is ns bottom_kind x)
  y ← variable p id
  if nothing (λ _. give y) (λ _. store (composite pol (y ∷ x ∷ [])))

-- canonicalize_inner for a variable with bounds bs in its place, of which cs are no variables
abbrev pub variable_rule : Pass → Reader → Visit → ℕ → Polarity → List ℕ → List ℕ → Run ℕ
variable_rule p t v id pol bs [] =
    if (p.preserved (p.rep id)) (λ _. variable p id)
    (λ _. expansion p t v id (filter (λ (b : ℕ). not (eqb (p.rep b) (p.rep id))) bs) pol)
variable_rule p t v id pol bs (c ∷ cs) =
    if (p.preserved (p.rep id))
    (λ _. do
      x ← expansion p t v id (c ∷ cs) pol
      preserving p id pol x)
    (λ _. expansion p t v id (c ∷ cs) pol)

-- the first bound that is a Named, handed to `hit`
abbrev pub named_bound : Reader → (ℕ → Run ℕ) → Run ℕ → List ℕ → Run ℕ
named_bound t hit miss [] = miss
named_bound t hit miss (b ∷ bs) = if (is_named (t b)) (λ _. hit b) (λ _. named_bound t hit miss bs)

-- canonicalize_inner: "A Named bound, lowers searched first, replaces the variable before its polarity is noted"
unfoldable pub canonicalize_inner : Pass → Reader → Visit → ℕ → List ℕ → List ℕ → Polarity → Run ℕ
canonicalize_inner p t v id l u pol =
    named_bound t (λ (b : ℕ). v b pol)
    (do
      _ ← note (p.rep id) pol
      variable_rule p t v id pol (bounds_of pol l u) (filter (λ (b : ℕ). not (is_variable (t b))) (bounds_of pol l u)))
    (l ++ u)

abbrev pub fields_rule : Visit → Polarity → List Field → Run (List Field)
fields_rule v pol [] = give []
fields_rule v pol (f ∷ fs) = do
  x ← v f.type pol
  gs ← fields_rule v pol fs
  give (record { key = f.key; type = x } ∷ gs)

abbrev pub dyn_rule : Visit → Polarity → Option ℕ → Run (Option ℕ)
dyn_rule v pol none = give none
dyn_rule v pol (some d) = do
  x ← v d pol
  give (some x)

-- the first member before filtering
abbrev pub first_member : List ℕ → Run ℕ
first_member [] = store Bottom
first_member (x ∷ xs) = give x

abbrev pub inter_normalized : Pass → Polarity → List ℕ → Run (List ℕ)
inter_normalized p Positive ms =
    ask (λ (ns : List Node). remove_tautological_pairs ns (remove_redundant_negations p.functor ns ms))
inter_normalized p Negative ms = do
  one ← merge_attrset_intersection ms
  ask (λ (ns : List Node). remove_redundant_negations p.functor ns one)

-- Ty::Inter once its members ms do not contradict each other; ys are all members of the first try
unfoldable pub inter_rest : Pass → Polarity → List ℕ → List ℕ → Run ℕ
inter_rest p pol ys ms = do
  xs ← inter_normalized p pol ms
  simple ← simplify_union_neg_intersection p.functor xs
  zs ← factor_shared_from_intersection simple
  settle (top_if_emptied pol ms) (first_member ys) Intersection zs

-- a variable is tried again in the other polarity
abbrev pub turned : Entry → Polarity → Polarity
turned e pol = if (is_variable e) (λ _. flip pol) (λ _. pol)

-- the retry of an intersection that contradicts itself: both members are visited again, and counted
unfoldable pub inter_retry : Pass → Reader → Visit → ℕ → ℕ → Polarity → List ℕ → Run ℕ
inter_retry p t v a b pol ys = do
  x ← v a (turned (t a) pol)
  y ← v b (turned (t b) pol)
  zs ← flattened intersection_kind (x ∷ y ∷ [])
  ms ← concrete_of p zs
  simple ← simplify_union_neg_intersection p.functor ms
  contradicts ← ask (λ (ns : List Node). has_type_contradiction p.functor ns simple)
  if contradicts (λ _. store Bottom) (λ _. inter_rest p pol ys simple)

-- Ty::Inter
unfoldable pub inter_rule : Pass → Reader → Visit → ℕ → ℕ → Polarity → Run ℕ
inter_rule p t v a b pol = do
  x ← v a pol
  y ← v b pol
  ys ← flattened intersection_kind (x ∷ y ∷ [])
  ms ← concrete_of p ys
  contradicts ← ask (λ (ns : List Node). has_type_contradiction p.functor ns ms)
  if contradicts
      (λ _. if (is_variable (t a) || is_variable (t b)) (λ _. inter_retry p t v a b pol ys) (λ _. store Bottom))
      (λ _. inter_rest p pol ys ms)

abbrev pub union_normalized : Polarity → List ℕ → Run (List ℕ)
union_normalized Positive ms = ask (λ (ns : List Node). absorb_subsumed_union_members ns (remove_tautological_pairs ns ms))
union_normalized Negative ms = ask (λ (ns : List Node). absorb_subsumed_union_members ns ms)

-- Ty::Union
unfoldable pub union_rule : Pass → Visit → ℕ → ℕ → Polarity → Run ℕ
union_rule p v a b pol = do
  x ← v a pol
  y ← v b pol
  ys ← flattened union_kind (x ∷ y ∷ [])
  ms ← concrete_of p ys
  xs ← union_normalized pol ms
  settle (top_if_emptied pol ms) (first_member ys) Union xs

-- canonicalize_inner for a variable, canonicalize_concrete for the others. A table with a frozen entry is refused, so that none is met
unfoldable pub rule : Pass → Reader → Visit → ℕ → Entry → Polarity → Run ℕ
rule p t v id (var l u) pol = canonicalize_inner p t v id l u pol
rule p t v id (prim c) pol = store (Primitive c)
rule p t v id (tyvar x) pol = variable p x
rule p t v id (list a) pol = do
  x ← v a pol
  store (ListOf x)
rule p t v id (fn a b) pol = do
  x ← v a (flip pol)
  y ← v b pol
  store (Lambda x y)
rule p t v id (set a) pol = do
  fs ← fields_rule v pol a.fields
  d ← dyn_rule v pol a.dyn
  store (AttrSet (record { fields = fs; dyn = d; is_open = a.is_open; optional = a.optional }))
rule p t v id (neg a) pol = do
  x ← v a (flip pol)
  negate_output_ty x
rule p t v id (named n a) pol = do
  x ← v a pol
  store (Named n x)
rule p t v id (inter a b) pol = inter_rule p t v a b pol
rule p t v id (union a b) pol = union_rule p v a b pol
rule p t v id frozen pol = refuse 5

-- "Otherwise work it out, store, cache". The entry is the id's own: "Reading the representative's bounds instead of the variable's own"
-- is easy to get wrong
abbrev pub work : Pass → Reader → Visit → ℕ → Polarity → Run ℕ
work p t v id pol = do
  _ ← set_key (slot id pol) 1
  x ← rule p t v id (t id) pol
  _ ← set_key (slot id pol) (x + 2)
  give x

-- "If cached, answer that. If in progress, answer TyVar(rep)."
abbrev pub look : Pass → ℕ → Run ℕ → ℕ → Run ℕ
look p id w zero = w
look p id w (suc zero) = variable p id
look p id w (suc (suc x)) = give x

-- a visit to (id, polarity), in order: bailed, count, budget, cache, keys in progress, and then w
unfoldable pub entered : Pass → ℕ → Polarity → Run ℕ → Run ℕ
entered p id pol w = do
  bailed ← has_bailed
  if bailed (λ _. variable p id)
      (λ _. do
        _ ← count_one
        over ← check_budget p
        if over (λ _. variable p id)
            (λ _. do
              k ← key_at (slot id pol)
              look p id w k))

-- canonicalize_child, with as many free keys as the first argument says: "6 .. a 97th key would be in progress", tested last
unfoldable pub visit : ℕ → Pass → Reader → Visit
visit zero p t id pol = entered p id pol (refuse 6)
visit (suc f) p t id pol = entered p id pol (work p t (visit f p t) id pol)

-- "A pass has its own arena, cache, keys in progress, polarity bits and operation count"
abbrev pub fresh : ℕ → State
fresh n = record { nodes = []; cells = 0; keys = replicate (2 * n) 0; bits = replicate n 0; ops = 0; sorted = false; bailed = false }

unfoldable pub pass : Pass → Reader → ℕ → Polarity → Out ℕ
pass p t id pol = visit most_keys p t id pol (fresh p.count)

-- what is shown of a root: its passes, the operations of both, sorted in either, bailed in either, the nodes of the pass shown and the root's node
pub record Shown : Type 0 where
  pub passes : ℕ
  pub operations : ℕ
  pub sorted : Bool
  pub bailed : Bool
  pub nodes : List Node
  pub root : ℕ

-- a root's answer, or refusal 6 to 9
pub data Answer : Type 0 where
  shown : Shown → Answer
  refused_with : ℕ → Answer

-- "its answer is the one shown", with what the first pass counted and marked: "the mark is 1 if either pass bailed" (request 2), since
-- the set of a first pass that bailed may not be the whole one
abbrev pub after_second : ℕ → Bool → Bool → Out ℕ → Answer
after_second ops sorted bailed (no k) = refused_with k
after_second ops sorted bailed (ok x s) =
    shown (record {
      passes = 2;
      operations = ops + s.ops;
      sorted = sorted || s.sorted;
      bailed = bailed || s.bailed;
      nodes = s.nodes;
      root = x;
    })

abbrev pub with_set : Pass → State → Pass
with_set p s = record {
  count = p.count;
  rep = p.rep;
  marked = p.marked;
  preserved = λ (r : ℕ). is_both (cell s.bits r);
  budget = p.budget;
  spent = s.ops;
  functor = p.functor;
}

-- "If any representative was seen in both polarities, a second pass runs with that set .. otherwise the first"
abbrev pub after_first : Pass → Reader → ℕ → Polarity → Out ℕ → Answer
after_first p t id pol (no k) = refused_with k
after_first p t id pol (ok x s) =
    if (any is_both s.bits) (λ _. after_second s.ops s.sorted s.bailed (pass (with_set p s) t id pol))
    (λ _. shown (record { passes = 1; operations = s.ops; sorted = s.sorted; bailed = s.bailed; nodes = s.nodes; root = x }))

-- canonicalize_standalone_with_deadline
unfoldable pub canonicalize : Pass → Reader → ℕ → Polarity → Answer
canonicalize p t id pol = after_first p t id pol (pass p t id pol)

-- the reader of a table
abbrev pub reader_of : Table → Reader
reader_of t id = entry_of (get_or t.entries id [])

-- the number of the name `__functor`; the number of names where it is none of them
abbrev pub functor_number : List (List ℕ) → ℕ
functor_number names = position (λ (name : List ℕ). eq_list name (ascii "__functor")) names

-- a first pass over a table
unfoldable pub first_pass : Table → Pass
first_pass t = record {
  count = length t.entries;
  rep = rep_in (representatives t);
  marked = λ (id : ℕ). any (λ (m : ℕ). eqb m id) t.marks;
  preserved = λ (r : ℕ). false;
  budget = t.budget;
  spent = 0;
  functor = functor_number t.names;
}

-- the answer of a root of a table
unfoldable pub answer_of : Table → ℕ → Polarity → Answer
answer_of t id pol = canonicalize (first_pass t) (reader_of t) id pol
