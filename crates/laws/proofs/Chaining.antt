-- The chain of fallbacks ends by itself: four begins are never passed, so that no chain is cut. After the bail each list is begun once; before
-- it a begin of atoms leaves something, so that the chain goes on after it only if the pass bailed. Assumes nothing.
use mathlib.Core.Path.{◌≡◌, refl, sym, ap, ap₂, ◌∙◌, subst}
use mathlib.Core.Bool.{Bool, true, false, not, ◌||◌}
use Prim.Native.Nat.{ℕ, zero, suc, ◌+◌, ◌<◌}
use native.Mathlib.Omega.{arith}
use native.Mathlib.Nat.{not-suc-le-zero}
use mathlib.Core.List.{List, [], ◌∷◌, ◌++◌}
use lib.ListN.{length, length-append, get_or-append}
use lib.Dec.{eqb, ltb}
use Rattle.cells.specs.Part.{if}
use Rattle.rules.specs.Plain.{any, all, filter, contains, empty, add_new, both}
use Rattle.rules.specs.Ceilings.{most_members}
use Rattle.rules.specs.Table.{Attr}
use Rattle.rules.specs.Types.{Node, TyVar, Primitive, ListOf, Lambda, AttrSet, Union, Intersection, Named, Neg, Bottom, Top, kind_of, as_attr, flip, State, Out, ok, no}
use Rattle.rules.specs.Types.{Run, bind, ◌>>=◌, give, refuse, node_at, is, limit, attr_set_kind, union_kind}
use Rattle.rules.specs.Members.{members_at, inner_of, is_concrete, add_all, flatten_one, flatten_into, flatten_composite, attr_of, attrs_of, merged}
use Rattle.rules.specs.Members.{merge_attrset_intersection, are_output_types_disjoint, remove_redundant_negations, has_type_contradiction, remove_tautological_pairs}
use Rattle.rules.specs.Members.{absorb_subsumed_union_members, factor_unions, factor_shared_from_intersection, each}
use Rattle.rules.specs.Canonicalizer.{Pass, Reader, Visit, variable, drops_node, should_drop_filler, flattened, composite_kind, settle, top_if_emptied, deduplicated}
use Rattle.rules.specs.Canonicalizer.{normalized, expand_bounds, is_atom, uppers, begin_list, Begun, began, begin, expand_bounds_empty_fallback, chain, visit}
use Rattle.laws.specs.Sound.{Tabled}
use Rattle.rules.specs.declared.Polarity.{Polarity}
use Rattle.rules.specs.declared.Polarity.TheVariants.{Positive, Negative}
use Rattle.laws.proofs.Keeping.{parted, gave, refused_not, keeps_merge}
use Rattle.laws.proofs.Rooting.{All, all_new, all_added, all_sieve, under_needed, AllBelow, roots_merge}
use Rattle.laws.proofs.Moving.{Moved, Firm, Goer, goes_of, goes_factor, goes_flattened, goes_each, begin_known, distinct_known}
use Rattle.laws.proofs.Caching.{Cached, cached_stays, cached_goes, Solid, visit_atom}
use Rattle.laws.proofs.Filtering.{filter_under}
use Rattle.cells.specs.Placed.{Under}
use Rattle.cells.proofs.Choices.{true_false}
use mathlib.Core.Option.{Option, none}

-- two ways on that agree where the first step leads
bind_agree : {A B : Type 0} (m : Run A) (f g : A → Run B) (st : State) → ((a : A) (s : State) → m st ≡ ok a s → f a s ≡ g a s) → bind (m st) f ≡ bind (m st) g
bind_agree {A} m f g st h = turn (m st) refl where
  turn : (o : Out A) → m st ≡ o → bind o f ≡ bind o g
  turn (ok a s) e = h a s e
  turn (no k) e = refl

if_agree : {A : Type 0} (b : Bool) (x y z : Unit {0} → Run A) (st : State) → (b ≡ false → y tt st ≡ z tt st) → if b x y st ≡ if b x z st
if_agree true x y z st h = refl
if_agree false x y z st h = h refl

-- all pass, or none does
module _ (P : ℕ → Type 0) (p : ℕ → Bool) where
  pass_turn : (b : Bool) (x : ℕ) (xs : List ℕ) → b ≡ true → filter p xs ≡ xs → if b (λ _. x ∷ filter p xs) (λ _. filter p xs) ≡ x ∷ xs
  pass_turn true x xs e h = ap (λ (l : List ℕ). x ∷ l) h
  pass_turn false x xs e h = true_false (sym e)

  all_pass : (xs : List ℕ) → ((x : ℕ) → P x → p x ≡ true) → All P xs → filter p xs ≡ xs
  all_pass [] f h = refl
  all_pass (x ∷ xs) f h = pass_turn (p x) x xs (f x h.0) (all_pass xs f h.1)

  none_turn : (b : Bool) (x : ℕ) (xs : List ℕ) → b ≡ false → filter p xs ≡ [] → if b (λ _. x ∷ filter p xs) (λ _. filter p xs) ≡ []
  none_turn true x xs e h = true_false e
  none_turn false x xs e h = h

  none_pass : (xs : List ℕ) → ((x : ℕ) → P x → p x ≡ false) → All P xs → filter p xs ≡ []
  none_pass [] f h = refl
  none_pass (x ∷ xs) f h = none_turn (p x) x xs (f x h.0) (none_pass xs f h.1)

  -- what passes p passes q
  module _ (q : ℕ → Bool) where
    some_turn : (a b : Bool) (x : ℕ) (xs : List ℕ) → (a ≡ true → b ≡ true) → (0 < length (filter p xs) → 0 < length (filter q xs))
        → 0 < length (if a (λ _. x ∷ filter p xs) (λ _. filter p xs)) → 0 < length (if b (λ _. x ∷ filter q xs) (λ _. filter q xs))
    some_turn a true x xs f r h = omega arith
    some_turn true false x xs f r h = true_false (sym (f refl))
    some_turn false false x xs f r h = r h

    some_pass : (xs : List ℕ) → ((x : ℕ) → P x → p x ≡ true → q x ≡ true) → All P xs → 0 < length (filter p xs) → 0 < length (filter q xs)
    some_pass [] f h l = l
    some_pass (x ∷ xs) f h l = some_turn (p x) (q x) x xs (f x h.0) (some_pass xs f h.1) l

-- a list with a new member is not empty
new_some : (b : Bool) (got : List ℕ) (x : ℕ) → b ≡ contains got x → 0 < length (if b (λ _. got) (λ _. got ++ (x ∷ [])))
new_some true [] x e = true_false e
new_some true (g ∷ got) x e = omega arith
new_some false got x e = omega (arith, length-append got (x ∷ []))

kept_some : (b : Bool) (got : List ℕ) (x : ℕ) → 0 < length got → 0 < length (if b (λ _. got) (λ _. got ++ (x ∷ [])))
kept_some true got x h = h
kept_some false got x h = omega (arith, length-append got (x ∷ []))

added_some : (got xs : List ℕ) → 0 < length got → 0 < length (add_all got xs)
added_some got [] h = h
added_some got (x ∷ xs) h = added_some (add_new got x) xs (kept_some (contains got x) got x h)

pub dedup_turn : (P : ℕ → Type 0) (b : Bool) (bs : List ℕ) → All P bs → All P (if b (λ _. add_all [] bs) (λ _. bs))
dedup_turn P true bs h = all_added P [] bs tt h
dedup_turn P false bs h = h

all_some : (xs : List ℕ) → 0 < length xs → 0 < length (add_all [] xs)
all_some [] h = h
all_some (x ∷ xs) h = added_some (x ∷ []) xs (omega arith)

dedup_some : (b : Bool) (bs : List ℕ) → 0 < length bs → 0 < length (if b (λ _. add_all [] bs) (λ _. bs))
dedup_some true bs h = all_some bs h
dedup_some false bs h = h

-- what a Primitive and a Neg are not
solid_kept : (p : Pass) (n : Node) → Solid n → not (drops_node p n) ≡ true
solid_kept p (TyVar x) h = absurd h
solid_kept p (Primitive c) h = refl
solid_kept p (ListOf a) h = absurd h
solid_kept p (Lambda a b) h = absurd h
solid_kept p (AttrSet a) h = absurd h
solid_kept p (Union ms) h = absurd h
solid_kept p (Intersection ms) h = absurd h
solid_kept p (Named n a) h = absurd h
solid_kept p (Neg a) h = refl
solid_kept p Bottom h = absurd h
solid_kept p Top h = absurd h

solid_kind : (n : Node) → Solid n → (eqb (kind_of n) 5 ≡ false) × (eqb (kind_of n) 6 ≡ false) × (as_attr n ≡ none)
solid_kind (TyVar x) h = absurd h
solid_kind (Primitive c) h = (refl, refl, refl)
solid_kind (ListOf a) h = absurd h
solid_kind (Lambda a b) h = absurd h
solid_kind (AttrSet a) h = absurd h
solid_kind (Union ms) h = absurd h
solid_kind (Intersection ms) h = absurd h
solid_kind (Named n a) h = absurd h
solid_kind (Neg a) h = (refl, refl, refl)
solid_kind Bottom h = absurd h
solid_kind Top h = absurd h

-- a concrete one holds nothing negated
solid_inner : (n : Node) → Solid n → (eqb (kind_of n) 1 || eqb (kind_of n) 4 || eqb (kind_of n) 2 || eqb (kind_of n) 3) ≡ true → inner_of n ≡ []
solid_inner (TyVar x) h e = absurd h
solid_inner (Primitive c) h e = refl
solid_inner (ListOf a) h e = absurd h
solid_inner (Lambda a b) h e = absurd h
solid_inner (AttrSet a) h e = absurd h
solid_inner (Union ms) h e = absurd h
solid_inner (Intersection ms) h e = absurd h
solid_inner (Named n a) h e = absurd h
solid_inner (Neg a) h e = true_false (sym e)
solid_inner Bottom h e = absurd h
solid_inner Top h e = absurd h

-- lists of Primitives and Negs
module _ (ns : List Node) where
  abbrev SolidAt : ℕ → Type 0
  SolidAt x = Solid (node_at ns x)

  flat_turn : (b : Bool) (got : List ℕ) (m : ℕ) → is ns 6 m ≡ b → SolidAt m → All SolidAt got
      → All SolidAt (if b (λ _. add_all got (members_at ns m)) (λ _. add_new got m)) × (0 < length (if b (λ _. add_all got (members_at ns m)) (λ _. add_new got m)))
  flat_turn true got m e h k = true_false (sym e ∙ (solid_kind (node_at ns m) h).1)
  flat_turn false got m e h k = (all_new SolidAt got m k h, new_some (contains got m) got m refl)

  flat_solid : (got ms : List ℕ) → All SolidAt got → All SolidAt ms → 0 < length got + length ms
      → All SolidAt (flatten_into 6 ns got ms) × (0 < length (flatten_into 6 ns got ms))
  flat_solid got [] h k l = (h, omega arith)
  flat_solid got (m ∷ ms) h k l =
      let g = flat_turn (is ns 6 m) got m refl k.0 h in
      let i = g.1 in flat_solid (flatten_one 6 ns got m) ms g.0 k.1 (omega arith)

  flatten_turn : (b : Bool) (ms : List ℕ) → All SolidAt ms → 0 < length ms
      → All SolidAt (if b (λ _. ms) (λ _. flatten_into 6 ns [] ms)) × (0 < length (if b (λ _. ms) (λ _. flatten_into 6 ns [] ms)))
  flatten_turn true ms h l = (h, l)
  flatten_turn false ms h l = flat_solid [] ms tt h (omega arith)

  flatten_solid : (ms : List ℕ) → All SolidAt ms → 0 < length ms → All SolidAt (flatten_composite 6 ns ms) × (0 < length (flatten_composite 6 ns ms))
  unfolding flatten_composite
  flatten_solid ms h l = flatten_turn (both (not (any (is ns 6) ms)) (λ _. ltb 64 (length ms))) ms h l

  attrs_none : (ms : List ℕ) → All SolidAt ms → attrs_of ns ms ≡ []
  attrs_none [] h = refl
  attrs_none (m ∷ ms) h = ap₂ (λ (q : Option Attr) (l : List Attr). attr_of q ++ l) (solid_kind (node_at ns m) h.0).2 (attrs_none ms h.1)

  empty_some : (xs : List ℕ) → empty xs ≡ false → 0 < length xs
  empty_some [] e = true_false e
  empty_some (x ∷ xs) e = omega arith

  needed_turn : (b : Bool) (f q : ℕ → Bool) (ms : List ℕ) → empty (filter f ms) ≡ b → ((x : ℕ) → SolidAt x → f x ≡ true → q x ≡ true) → All SolidAt ms → 0 < length ms
      → All SolidAt (if b (λ _. ms) (λ _. filter q ms)) × (0 < length (if b (λ _. ms) (λ _. filter q ms)))
  needed_turn true f q ms e g h l = (h, l)
  needed_turn false f q ms e g h l = (all_sieve SolidAt q ms h, some_pass SolidAt f q ms g h (empty_some (filter f ms) e))

  -- a Neg may go, but not beside nothing
  needed_solid : (functor : ℕ) (ms : List ℕ) → All SolidAt ms → 0 < length ms
      → All SolidAt (remove_redundant_negations functor ns ms) × (0 < length (remove_redundant_negations functor ns ms))
  unfolding remove_redundant_negations
  needed_solid functor ms h l =
      let o : (a : ℕ) → Bool = λ a. all (λ (c : ℕ). are_output_types_disjoint functor ns c a) (filter (is_concrete ns) ms) in
      needed_turn (empty (filter (is_concrete ns) ms)) (is_concrete ns) (λ (m : ℕ). not (any o (inner_of (node_at ns m)))) ms refl
      (λ x k e. ap (λ (xs : List ℕ). not (any o xs)) (solid_inner (node_at ns x) k e)) h l

-- steps that leave such a list as it is
module _ (st : State) (ms : List ℕ) (h : All (SolidAt st.nodes) ms) where
  merge_solid : merge_attrset_intersection ms st ≡ ok ms st
  unfolding merge_attrset_intersection
  merge_solid =
      ap (λ (sets : List Attr). if (empty sets) (λ _. give ms) (λ _. merged sets >>= (λ (x : ℕ). give (filter (λ (m : ℕ). not (is st.nodes attr_set_kind m)) ms ++ (x ∷ [])))) st)
      (attrs_none st.nodes ms h)

  factor_solid : factor_shared_from_intersection ms st ≡ ok ms st
  unfolding factor_shared_from_intersection
  factor_solid =
      ap₂ (λ (others us : List ℕ). factor_unions others us st)
      (all_pass (SolidAt st.nodes) (λ (m : ℕ). not (is st.nodes union_kind m)) ms (λ x k. ap not (solid_kind (node_at st.nodes x) k).0) h)
      (none_pass (SolidAt st.nodes) (is st.nodes union_kind) ms (λ x k. (solid_kind (node_at st.nodes x) k).0) h)

-- a list that is not empty does without its fallback
settle_some : (c : Bool) (rest rest' : Run ℕ) (wrap : List ℕ → Node) (xs : List ℕ) (st : State) → 0 < length xs → settle c rest wrap xs st ≡ settle c rest' wrap xs st
settle_some c rest rest' wrap [] st h = absurd (not-suc-le-zero h)
settle_some c rest rest' wrap (x ∷ []) st h = refl
settle_some c rest rest' wrap (x ∷ y ∷ xs) st h = refl

settle_agree : (c : Bool) (rest rest' : Run ℕ) (wrap : List ℕ → Node) (xs : List ℕ) (st : State) → rest st ≡ rest' st → settle c rest wrap xs st ≡ settle c rest' wrap xs st
settle_agree c rest rest' wrap [] st h = if_agree c _ _ _ st (λ _. h)
settle_agree c rest rest' wrap (x ∷ []) st h = refl
settle_agree c rest rest' wrap (x ∷ y ∷ xs) st h = refl

normalized_solid : (p : Pass) (rest rest' : Run ℕ) (ms : List ℕ) (st : State) → All (SolidAt st.nodes) ms → 0 < length ms
    → normalized p rest Negative ms st ≡ normalized p rest' Negative ms st
normalized_solid p rest rest' ms st h l =
    bind_agree (merge_attrset_intersection ms) _ _ st
    (λ one s e.
    let g = gave {a = ms} {b = one} {st = st} {st' = s} (λ one s. All (SolidAt s.nodes) one × (0 < length one)) (sym (merge_solid st ms h) ∙ e) (h, l) in
    let xs = remove_redundant_negations p.functor s.nodes one in
    let i = needed_solid s.nodes p.functor one g.0 g.1 in
    if_agree (has_type_contradiction p.functor s.nodes xs) _ _ _ s
    (λ _. bind_agree (factor_shared_from_intersection xs) _ _ s
    (λ ys z e. settle_some (top_if_emptied Negative ms) rest rest' Intersection ys z
    (gave {a = xs} {b = ys} {st = s} {st' = z} (λ ys z. 0 < length ys) (sym (factor_solid s xs i.0) ∙ e) i.1))))

-- flattening changes no state
limit_gives : (xs : List ℕ) (st : State) (ys : List ℕ) (st' : State) (P : List ℕ → State → Type 0) → limit xs st ≡ ok ys st' → P xs st → P ys st'
unfolding limit
limit_gives xs st ys st' P e h = turn (ltb most_members (length xs)) e where
  turn : (b : Bool) → if b (λ _. refuse 7) (λ _. give xs) st ≡ ok ys st' → P ys st'
  turn true e = refused_not e
  turn false e = gave P e h

flattened_gives : (k : ℕ) (xs : List ℕ) (st : State) (ys : List ℕ) (st' : State) (P : List ℕ → State → Type 0) → flattened k xs st ≡ ok ys st'
    → P (flatten_composite k st.nodes xs) st → P ys st'
flattened_gives k xs st ys st' P e h =
    let c = parted (limit xs) _ st ys st' e in
    limit_gives (flatten_composite k c.between.nodes c.value) c.between ys st' P c.second
    (limit_gives xs st c.value c.between (λ l s. P (flatten_composite k s.nodes l) s) c.first h)

-- the members that are no fillers
abbrev concrete : Pass → State → List ℕ → List ℕ
concrete p st ys = filter (λ (m : ℕ). not (should_drop_filler p st.nodes m)) ys

-- an expansion with one fallback is that with another, if they agree on what is left
expand_alike : (p : Pass) (v : Visit) (rest rest' : Run ℕ) (bs : List ℕ) (pol : Polarity) (st : State)
    → ((xs : List ℕ) (s : State) → each (λ (b : ℕ). v b pol) (deduplicated bs) st ≡ ok xs s → (ys : List ℕ) (z : State) → flattened (composite_kind pol) xs s ≡ ok ys z
    → normalized p rest pol (concrete p z ys) z ≡ normalized p rest' pol (concrete p z ys) z)
    → expand_bounds p v rest bs pol st ≡ expand_bounds p v rest' bs pol st
unfolding expand_bounds
expand_alike p v rest rest' bs pol st h =
    bind_agree (each (λ (b : ℕ). v b pol) (deduplicated bs)) _ _ st (λ xs s e. bind_agree (flattened (composite_kind pol) xs) _ _ s (λ ys z q. h xs s e ys z q))

-- tests
or_true : (a : Bool) → (a || true) ≡ true
or_true true = refl
or_true false = refl

or_false : (a b : Bool) → (a || b) ≡ false → a ≡ false
or_false true b e = e
or_false false b e = refl

not_before : (a b : Bool) → (a ≡ true → b ≡ true) → b ≡ false → a ≡ false
not_before true b f e = sym (f refl) ∙ e
not_before false b f e = refl

module _ (f : ℕ → Bool) where
  abbrev Chosen : ℕ → Type 0
  Chosen x = f x ≡ true

  chosen_turn : (b : Bool) (x : ℕ) (xs : List ℕ) → f x ≡ b → All Chosen (filter f xs) → All Chosen (if b (λ _. x ∷ filter f xs) (λ _. filter f xs))
  chosen_turn true x xs e h = (e, h)
  chosen_turn false x xs e h = h

  chosen : (xs : List ℕ) → All Chosen (filter f xs)
  chosen [] = tt
  chosen (x ∷ xs) = chosen_turn (f x) x xs refl (chosen xs)

-- begun lists: the other one is as before, and this one is begun if the pass bailed
other_list : (x : Bool) (g : Begun) (pol : Polarity) → began (begin x g pol) (flip pol) ≡ began g (flip pol)
other_list x g Positive = refl
other_list x g Negative = refl

own_list : (x : Bool) (g : Begun) (pol : Polarity) → x ≡ true → began (begin x g pol) (flip (flip pol)) ≡ true
own_list x g Positive e = ap (λ (b : Bool). g.upper || b) e ∙ or_true g.upper
own_list x g Negative e = ap (λ (b : Bool). g.lower || b) e ∙ or_true g.lower

module _ (p : Pass) (t : Reader) (b : Tabled p t) (v : Visit) (mv : Goer p t (Cached t) v)
    (atoms : (id : ℕ) (pol : Polarity) (st : State) (x : ℕ) (st' : State) → id < p.count → is_atom t (t id) ≡ true → Firm p.count (Cached t) st
    → v id pol st ≡ ok x st' → st'.bailed ≡ false → Solid (node_at st'.nodes x)) where
  abbrev n : ℕ
  n = p.count

  abbrev I : List Node → List ℕ → Type 0
  I = Cached t

  -- fallbacks that agree on later states of which R holds
  module _ (R : State → Type 0) (closed : (s y : State) → Moved n t s y → R s → R y) (rest rest' : Run ℕ) (agree : (y : State) → Firm n I y → R y → rest y ≡ rest' y) where
    normalized_agree : (pol : Polarity) (ms : List ℕ) (st : State) → Firm n I st → Under (length st.nodes) ms → R st → normalized p rest pol ms st ≡ normalized p rest' pol ms st
    normalized_agree Positive ms st f u r =
        settle_agree (top_if_emptied Positive ms) rest rest' Union (absorb_subsumed_union_members st.nodes (remove_tautological_pairs st.nodes ms)) st (agree st f r)
    normalized_agree Negative ms st f u r =
        bind_agree (merge_attrset_intersection ms) _ _ st
        (λ one s e.
        let w = goes_of n t I (cached_stays t) AllBelow (merge_attrset_intersection ms) st f (keeps_merge ms) (roots_merge ms st f.rooted u) one s e in
        let xs = remove_redundant_negations p.functor s.nodes one in
        if_agree (has_type_contradiction p.functor s.nodes xs) _ _ _ s
        (λ _. bind_agree (factor_shared_from_intersection xs) _ _ s
        (λ ys y e.
        let g = goes_factor n t I (cached_stays t) xs s w.firm (under_needed (length s.nodes) p.functor s.nodes one w.fact) ys y e in
        settle_agree (top_if_emptied Negative ms) rest rest' Intersection ys y (agree y g.firm (closed s y g.moved (closed st s w.moved r))))))

    flat_agree : (pol : Polarity) (xs : List ℕ) (s : State) (ys : List ℕ) (z : State) → Firm n I s → Under (length s.nodes) xs → R s → flattened (composite_kind pol) xs s ≡ ok ys z
        → normalized p rest pol (concrete p z ys) z ≡ normalized p rest' pol (concrete p z ys) z
    flat_agree pol xs s ys z f u r q =
        let k = goes_flattened n t I (cached_stays t) (composite_kind pol) xs s f u ys z q in
        normalized_agree pol (concrete p z ys) z k.firm (filter_under _ (length z.nodes) ys k.fact) (closed s z k.moved r)

    expand_agree : (bs : List ℕ) (pol : Polarity) (st : State) → Under n bs → Firm n I st → R st → expand_bounds p v rest bs pol st ≡ expand_bounds p v rest' bs pol st
    expand_agree bs pol st u f r =
        expand_alike p v rest rest' bs pol st
        (λ xs s e ys z q.
        let w = goes_each p t b I (cached_stays t) v mv pol (deduplicated bs) st (distinct_known n bs u) f xs s e in
        flat_agree pol xs s ys z w.firm w.fact.below (closed st s w.moved r) q)

  abbrev Bailed : State → Type 0
  Bailed s = s.bailed ≡ true

  bailed_closed : (s y : State) → Moved n t s y → Bailed s → Bailed y
  bailed_closed s y m h = m.bailed h

  -- the answers of atoms
  abbrev Atom : ℕ → Type 0
  Atom x = is_atom t (t x) ≡ true

  each_solid : (pol : Polarity) (bs : List ℕ) (st : State) (xs : List ℕ) (s : State) → Under n bs → All Atom bs → Firm n I st
      → each (λ (b : ℕ). v b pol) bs st ≡ ok xs s → s.bailed ≡ false → All (SolidAt s.nodes) xs
  each_solid pol [] st xs s u a f e = gave (λ xs s. s.bailed ≡ false → All (SolidAt s.nodes) xs) e (λ _. tt)
  each_solid pol (c ∷ bs) st xs s u a f e =
      let m = parted (v c pol) _ st xs s e in
      let r = parted (each (λ (b : ℕ). v b pol) bs) _ m.between xs s m.second in
      let w = mv c pol st u.0 f m.value m.between m.first in
      let k = goes_each p t b I (cached_stays t) v mv pol bs m.between u.1 w.firm r.value r.between r.first in
      gave (λ xs s. s.bailed ≡ false → All (SolidAt s.nodes) xs) r.second
      (λ h. (
        solid_stays k.moved w.fact (atoms c pol st m.value m.between u.0 a.0 f m.first (not_before m.between.bailed r.between.bailed k.moved.bailed h)),
        each_solid pol bs m.between r.value r.between u.1 a.1 w.firm r.first h,
      )) where
        solid_stays : {s y : State} {x : ℕ} → Moved n t s y → x < length s.nodes → Solid (node_at s.nodes x) → Solid (node_at y.nodes x)
        solid_stays {s} {y} {x} m l h =
            subst Solid (sym (ap (λ (ns : List Node). node_at ns x) m.nodes ∙ get_or-append s.nodes m.more Bottom x l)) h

  -- atoms leave something before the bail, so that fallbacks need only agree after it
  module _ (rest rest' : Run ℕ) (agree : (y : State) → Firm n I y → Bailed y → rest y ≡ rest' y) where
    left_solid : (xs : List ℕ) (s : State) (ys : List ℕ) (z : State) → All (SolidAt s.nodes) xs → 0 < length xs → flattened 6 xs s ≡ ok ys z
        → normalized p rest Negative (concrete p z ys) z ≡ normalized p rest' Negative (concrete p z ys) z
    left_solid xs s ys z h l q =
        let g = flattened_gives 6 xs s ys z (λ ys z. All (SolidAt z.nodes) ys × (0 < length ys)) q (flatten_solid s.nodes xs h l) in
        let e = all_pass (SolidAt z.nodes) (λ (m : ℕ). not (should_drop_filler p z.nodes m)) ys (λ x k. solid_kept p (node_at z.nodes x) k) g.0 in
        normalized_solid p rest rest' (concrete p z ys) z (subst (All (SolidAt z.nodes)) (sym e) g.0) (subst (λ (l : List ℕ). 0 < length l) (sym e) g.1)

    left_turn : (c : Bool) (xs : List ℕ) (s : State) (ys : List ℕ) (z : State) → s.bailed ≡ c → Firm n I s → Under (length s.nodes) xs
        → (s.bailed ≡ false → All (SolidAt s.nodes) xs) → 0 < length xs → flattened 6 xs s ≡ ok ys z
        → normalized p rest Negative (concrete p z ys) z ≡ normalized p rest' Negative (concrete p z ys) z
    left_turn true xs s ys z h f u k l q = flat_agree Bailed bailed_closed rest rest' agree Negative xs s ys z f u h q
    left_turn false xs s ys z h f u k l q = left_solid xs s ys z (k h) l q

    expand_atoms : (bs : List ℕ) (st : State) → Under n bs → All Atom bs → 0 < length bs → Firm n I st
        → expand_bounds p v rest bs Negative st ≡ expand_bounds p v rest' bs Negative st
    expand_atoms bs st u a l f =
        let ds = deduplicated bs in
        let d : Under n ds = distinct_known n bs u in
        let m : 0 < length ds = dedup_some (ltb 16 (length bs)) bs l in
        expand_alike p v rest rest' bs Negative st
        (λ xs s e ys z q.
        let w = goes_each p t b I (cached_stays t) v mv Negative ds st d f xs s e in
        left_turn s.bailed xs s ys z refl w.firm w.fact.below
        (λ h. each_solid Negative ds st xs s d (dedup_turn Atom (ltb 16 (length bs)) bs a) f e h) (omega (arith, w.fact.many)) q)

  -- the chain
  abbrev fallback : ℕ → Begun → ℕ → Polarity → Run ℕ
  fallback c g id pol = expand_bounds_empty_fallback c p t v g id pol

  abbrev stops : Begun → ℕ → Polarity → State → Bool
  stops g id pol st = empty (begin_list p t id pol) || both st.bailed (λ _. began g pol)

  step_agree : (c d : ℕ) (g : Begun) (id : ℕ) (pol : Polarity) (st : State)
      → (stops g id pol st ≡ false → expand_bounds p v (fallback c (begin st.bailed g pol) id (flip pol)) (begin_list p t id pol) (flip pol) st
      ≡ expand_bounds p v (fallback d (begin st.bailed g pol) id (flip pol)) (begin_list p t id pol) (flip pol) st)
      → fallback (suc c) g id pol st ≡ fallback (suc d) g id pol st
  unfolding expand_bounds_empty_fallback
  step_agree c d g id pol st h = if_agree (stops g id pol st) _ _ _ st h

  -- after the bail: a begun list is not begun again
  done : (c : ℕ) (g : Begun) (id : ℕ) (pol : Polarity) (st : State) → Bailed st → began g pol ≡ true → fallback c g id pol st ≡ variable p id st
  unfolding expand_bounds_empty_fallback
  done zero g id pol st h k = refl
  done (suc c) g id pol st h k =
      ap (λ (s : Bool). if s (λ _. variable p id) (λ _. expand_bounds p v (fallback c (begin st.bailed g pol) id (flip pol)) (begin_list p t id pol) (flip pol)) st)
      (ap (λ (s : Bool). empty (begin_list p t id pol) || s) (ap₂ (λ (x y : Bool). both x (λ _. y)) h k) ∙ or_true (empty (begin_list p t id pol)))

  bailed_one : (c d : ℕ) (g : Begun) (id : ℕ) (pol : Polarity) (st : State) → id < n → Firm n I st → Bailed st → began g (flip pol) ≡ true
      → fallback (suc c) g id pol st ≡ fallback (suc d) g id pol st
  bailed_one c d g id pol st l f h k =
      step_agree c d g id pol st
      (λ _. let q = begin st.bailed g pol in let e = other_list st.bailed g pol ∙ k in
      expand_agree Bailed bailed_closed (fallback c q id (flip pol)) (fallback d q id (flip pol))
      (λ y f r. done c q id (flip pol) y r e ∙ sym (done d q id (flip pol) y r e)) (begin_list p t id pol) (flip pol) st (begin_known p t b id pol l) f h)

  bailed_two : (c d : ℕ) (g : Begun) (id : ℕ) (pol : Polarity) (st : State) → id < n → Firm n I st → Bailed st
      → fallback (suc (suc c)) g id pol st ≡ fallback (suc (suc d)) g id pol st
  bailed_two c d g id pol st l f h =
      step_agree (suc c) (suc d) g id pol st
      (λ _. let q = begin st.bailed g pol in
      expand_agree Bailed bailed_closed (fallback (suc c) q id (flip pol)) (fallback (suc d) q id (flip pol))
      (λ y f r. bailed_one c d q id (flip pol) y l f r (own_list st.bailed g pol h)) (begin_list p t id pol) (flip pol) st (begin_known p t b id pol l) f h)

  begin_atoms : (id : ℕ) → All Atom (begin_list p t id Positive)
  begin_atoms id = chosen (λ (b : ℕ). is_atom t (t b)) (uppers (t id))

  positive_three : (c d : ℕ) (g : Begun) (id : ℕ) (st : State) → id < n → Firm n I st
      → fallback (suc (suc (suc c))) g id Positive st ≡ fallback (suc (suc (suc d))) g id Positive st
  positive_three c d g id st l f =
      step_agree (suc (suc c)) (suc (suc d)) g id Positive st
      (λ h. let q = begin st.bailed g Positive in
      expand_atoms (fallback (suc (suc c)) q id Negative) (fallback (suc (suc d)) q id Negative) (λ y f r. bailed_two c d q id Negative y l f r)
      (begin_list p t id Positive) st (begin_known p t b id Positive l) (begin_atoms id)
      (empty_some st.nodes (begin_list p t id Positive) (or_false (empty (begin_list p t id Positive)) (both st.bailed (λ _. began g Positive)) h)) f)

  negative_four : (c d : ℕ) (g : Begun) (id : ℕ) (st : State) → id < n → Firm n I st
      → fallback (suc (suc (suc (suc c)))) g id Negative st ≡ fallback (suc (suc (suc (suc d)))) g id Negative st
  negative_four c d g id st l f =
      step_agree (suc (suc (suc c))) (suc (suc (suc d))) g id Negative st
      (λ _. let q = begin st.bailed g Negative in
      expand_agree (λ _. Unit {0}) (λ s y m r. tt) (fallback (suc (suc (suc c))) q id Positive) (fallback (suc (suc (suc d))) q id Positive)
      (λ y f r. positive_three c d q id y l f) (begin_list p t id Negative) Positive st (begin_known p t b id Negative l) f tt)

  -- with more begins than the chain has, the same comes out
  chain_enough : (c : ℕ) (g : Begun) (id : ℕ) (pol : Polarity) (st : State) → id < n → Firm n I st
      → expand_bounds_empty_fallback (chain + c) p t v g id pol st ≡ expand_bounds_empty_fallback chain p t v g id pol st
  chain_enough c g id Positive st l f =
      let z : 4 + c ≡ suc (suc (suc (suc c))) = omega arith in
      ap (λ (k : ℕ). fallback k g id Positive st) z ∙ positive_three (suc c) 1 g id st l f
  chain_enough c g id Negative st l f =
      let z : 4 + c ≡ suc (suc (suc (suc c))) = omega arith in
      ap (λ (k : ℕ). fallback k g id Negative st) z ∙ negative_four c 0 g id st l f

  -- before the bail a list is begun, if it is not empty, whether or not it was begun before
  pub begins_again : (c : ℕ) (g : Begun) (id : ℕ) (pol : Polarity) (st : State) → st.bailed ≡ false → empty (begin_list p t id pol) ≡ false
      → expand_bounds_empty_fallback (suc c) p t v g id pol st ≡ expand_bounds p v (fallback c (begin false g pol) id (flip pol)) (begin_list p t id pol) (flip pol) st
  unfolding expand_bounds_empty_fallback
  begins_again c g id pol st h k =
      ap₂ (λ (x y : Bool). if (y || both x (λ _. began g pol)) (λ _. variable p id) (λ _. expand_bounds p v (fallback c (begin x g pol) id (flip pol)) (begin_list p t id pol) (flip pol)) st) h k

-- so it is of every visit
pub chain_visits : (p : Pass) (t : Reader) → Tabled p t → (f c : ℕ) (g : Begun) (id : ℕ) (pol : Polarity) (st : State) → id < p.count → Firm p.count (Cached t) st
    → expand_bounds_empty_fallback (chain + c) p t (visit f p t) g id pol st ≡ expand_bounds_empty_fallback chain p t (visit f p t) g id pol st
chain_visits p t b f c g id pol st l h = chain_enough p t b (visit f p t) (cached_goes p t b f) (visit_atom p t b f) c g id pol st l h
