-- Locality: a visit reads the entries that chains of bounds or children come to, and no other; so the answer of a root from which no chain
-- meets an entry that differs stays as it was. Assumes nothing.
use mathlib.Core.Path.{◌≡◌, refl, sym, ap, ap₂, ◌∙◌}
use mathlib.Core.Bool.{Bool, true, false, not, ◌||◌}
use Prim.Native.Nat.{ℕ, zero, suc, ◌+◌}
use mathlib.Core.List.{List, [], ◌∷◌, ◌++◌, Memᴰ}
use lib.ListN.{length}
use lib.Dec.{eqb, ltb}
use borrow.Author.Tests.{eqb-true}
use Rattle.cells.specs.Part.{if, eq_list}
use Rattle.cells.proofs.Choices.{by_branch, true_false}
use Rattle.rules.specs.Plain.{any, filter, empty, both}
use Rattle.rules.specs.Ceilings.{most_keys}
use Rattle.rules.specs.Table.{Pair, Root, Field, Entry, var, prim, tyvar, list, fn, set, neg, named, inter, union, frozen, entry_of, field_types, dyn_ids, kids, Table}
use Rattle.rules.specs.Table.{join_pairs, upward, representatives, rep_in}
use Rattle.rules.specs.Types.{Node, ListOf, Lambda, AttrSet, Union, Named, Bottom, flip, ok, no, Out, Run, ◌>>=◌, give, ask, store, union_kind, intersection_kind, polarity_of}
use Rattle.rules.specs.Members.{each, has_type_contradiction, simplify_union_neg_intersection, negate_output_ty}
use Rattle.rules.specs.Canonicalizer.{Pass, Reader, Visit, variable, note, has_bailed, slot, set_key, concrete_of, flattened, composite_kind, settle, top_if_emptied}
use Rattle.rules.specs.Canonicalizer.{deduplicated, normalized, expand_bounds, is_variable, is_named, is_prim, negated, is_atom, lowers, uppers, begin_list, Begun, began}
use Rattle.rules.specs.Canonicalizer.{begin, expand_bounds_empty_fallback, chain, expansion, bounds_of, preserving, variable_rule, named_bound, canonicalize_inner}
use Rattle.rules.specs.Canonicalizer.{fields_rule, dyn_rule, first_member, inter_rest, turned, inter_retry, inter_rule, union_normalized, union_rule, rule, work, entered}
use Rattle.rules.specs.Canonicalizer.{visit, fresh, pass, is_both, Answer, shown, after_second, with_set, after_first, canonicalize, reader_of, functor_number, first_pass, answer_of}
use Rattle.rules.specs.Listing.{answer_text, root_text}
use Rattle.rules.specs.Variables.{answer_in}
use Rattle.rules.specs.declared.Form.{Form}
use Rattle.rules.specs.Calls.{same, same_pair, same_root, comparable, row_at, differs}
use Rattle.rules.specs.Chains.{StepsTo, Chain, here, onward, MeetsDifference}
use Rattle.rules.specs.declared.Polarity.{Polarity}
use Rattle.rules.specs.declared.Polarity.TheVariants.{Positive, Negative}
use Rattle.laws.proofs.Storing.{eq_list_true}
use Rattle.laws.proofs.Admitting.{both_parts}
use Rattle.laws.proofs.Rooting.{All, all_sieve}
use Rattle.laws.proofs.Chaining.{dedup_turn}
use Rattle.laws.proofs.Chains.{differs_false}
use mathlib.Core.Option.{Option, none, some}

module _ (P : ℕ → Type 0) where
  all_front : (xs ys : List ℕ) → All P (xs ++ ys) → All P xs
  all_front [] ys h = tt
  all_front (x ∷ xs) ys h = (h.0, all_front xs ys h.1)

  all_back : (xs ys : List ℕ) → All P (xs ++ ys) → All P ys
  all_back [] ys h = h
  all_back (x ∷ xs) ys h = all_back xs ys h.1

  all_of : (xs : List ℕ) → ((j : ℕ) → Memᴰ j xs → P j) → All P xs
  all_of [] h = tt
  all_of (x ∷ xs) h = (h x (Memᴰ.head refl), all_of xs (λ j m. h j (Memᴰ.tail m)))

  all_bounds : (pol : Polarity) (l u : List ℕ) → All P (l ++ u) → All P (bounds_of pol l u)
  all_bounds Positive l u h = all_front l u h
  all_bounds Negative l u h = all_back l u h

  -- the bounds of a variable, and what a neg negates, are among the ids of the entry
  parts : (e : Entry) → All P (kids e) → All P (lowers e) × All P (uppers e) × All P (negated e)
  parts (var l u) h = (all_front l u h, all_back l u h, tt)
  parts (prim c) h = (tt, tt, tt)
  parts (tyvar x) h = (tt, tt, tt)
  parts (list a) h = (tt, tt, tt)
  parts (fn a b) h = (tt, tt, tt)
  parts (set a) h = (tt, tt, tt)
  parts (neg a) h = (tt, tt, h)
  parts (named n a) h = (tt, tt, tt)
  parts (inter a b) h = (tt, tt, tt)
  parts (union a b) h = (tt, tt, tt)
  parts frozen h = (tt, tt, tt)

  -- tests that say the same of these
  filter_local : {f g : ℕ → Bool} → ((j : ℕ) → P j → f j ≡ g j) → (xs : List ℕ) → All P xs → filter f xs ≡ filter g xs
  filter_local h [] a = refl
  filter_local h (x ∷ xs) a = λ i. if (h x a.0 i) (λ _. x ∷ filter_local h xs a.1 i) (λ _. filter_local h xs a.1 i)

  any_local : {f g : ℕ → Bool} → ((j : ℕ) → P j → f j ≡ g j) → (xs : List ℕ) → All P xs → any f xs ≡ any g xs
  any_local h [] a = refl
  any_local h (x ∷ xs) a = λ i. if (h x a.0 i) (λ _. true) (λ _. any_local h xs a.1 i)

-- readers that are the same on a set of ids that bounds and children do not leave
module _ (t t' : Reader) (S : ℕ → Type 0) (closed : (id : ℕ) → S id → All S (kids (t id))) (same : (id : ℕ) → S id → t id ≡ t' id) where
  atom_local : (b : ℕ) → S b → is_atom t (t b) ≡ is_atom t' (t' b)
  atom_local b s =
      ap (λ (x : Bool). is_prim (t b) || x) (any_local S (λ a r. ap is_prim (same a r)) (negated (t b)) (parts S (t b) (closed b s)).2)
      ∙ ap (is_atom t') (same b s)

  named_local : {hit hit' : ℕ → Run ℕ} {miss miss' : Run ℕ} (bs : List ℕ) → All S bs → ((j : ℕ) → S j → hit j ≡ hit' j) → miss ≡ miss'
      → named_bound t hit miss bs ≡ named_bound t' hit' miss' bs
  named_local [] a hits misses = misses
  named_local (b ∷ bs) a hits misses = λ i. if (is_named (same b a.0 i)) (λ _. hits b a.0 i) (λ _. named_local bs a.1 hits misses i)

  module _ (p : Pass) where
    begin_in : (id : ℕ) (pol : Polarity) → S id → All S (begin_list p t id pol)
    begin_in id Negative s = by_branch (All S) (p.marked id || p.marked (p.rep id)) _ _ tt (parts S (t id) (closed id s)).0
    begin_in id Positive s = all_sieve S _ (uppers (t id)) (parts S (t id) (closed id s)).1

    begin_local : (id : ℕ) (pol : Polarity) → S id → begin_list p t id pol ≡ begin_list p t' id pol
    begin_local id Negative s = ap (λ (e : Entry). if (p.marked id || p.marked (p.rep id)) (λ _. []) (λ _. lowers e)) (same id s)
    begin_local id Positive s =
        filter_local S atom_local (uppers (t id)) (parts S (t id) (closed id s)).1
        ∙ ap (λ (e : Entry). filter (λ (b : ℕ). is_atom t' (t' b)) (uppers e)) (same id s)

    -- and visitors that do the same there
    module _ (v v' : Visit) (visits : (id : ℕ) → S id → v id ≡ v' id) where
      each_local : (pol : Polarity) (bs : List ℕ) → All S bs → each (λ (b : ℕ). v b pol) bs ≡ each (λ (b : ℕ). v' b pol) bs
      each_local pol [] a = refl
      each_local pol (b ∷ bs) a = λ i. do
        x ← visits b a.0 i pol
        xs ← each_local pol bs a.1 i
        give (x ∷ xs)

      expand_local : {rest rest' : Run ℕ} → rest ≡ rest' → (bs : List ℕ) (pol : Polarity) → All S bs
          → expand_bounds p v rest bs pol ≡ expand_bounds p v' rest' bs pol
      unfolding expand_bounds
      expand_local e bs pol a = λ i. do
        xs ← each_local pol (deduplicated bs) (dedup_turn S (ltb 16 (length bs)) bs a) i
        ys ← flattened (composite_kind pol) xs
        ms ← concrete_of p ys
        normalized p (e i) pol ms

      fallback_local : (c : ℕ) (g : Begun) (id : ℕ) (pol : Polarity) → S id
          → expand_bounds_empty_fallback c p t v g id pol ≡ expand_bounds_empty_fallback c p t' v' g id pol
      unfolding expand_bounds_empty_fallback
      fallback_local zero g id pol s = refl
      fallback_local (suc c) g id pol s =
          (λ i. do
            bailed ← has_bailed
            if (empty (begin_list p t id pol) || both bailed (λ _. began g pol)) (λ _. variable p id)
                (λ _. expand_local (fallback_local c (begin bailed g pol) id (flip pol) s) (begin_list p t id pol) (flip pol) (begin_in id pol s) i))
          ∙ ap (λ (bs : List ℕ). do
            bailed ← has_bailed
            if (empty bs || both bailed (λ _. began g pol)) (λ _. variable p id)
                (λ _. expand_bounds p v' (expand_bounds_empty_fallback c p t' v' (begin bailed g pol) id (flip pol)) bs (flip pol)))
          (begin_local id pol s)

      expansion_local : (id : ℕ) (bs : List ℕ) (pol : Polarity) → S id → All S bs → expansion p t v id bs pol ≡ expansion p t' v' id bs pol
      expansion_local id bs pol s a = expand_local (fallback_local chain (record { lower = false; upper = false }) id pol s) bs pol a

      variable_local : (id : ℕ) (pol : Polarity) (bs cs : List ℕ) → S id → All S bs → All S cs
          → variable_rule p t v id pol bs cs ≡ variable_rule p t' v' id pol bs cs
      variable_local id pol bs [] s a b = λ i. if (p.preserved (p.rep id)) (λ _. variable p id)
          (λ _. expansion_local id (filter (λ (b : ℕ). not (eqb (p.rep b) (p.rep id))) bs) pol s (all_sieve S _ bs a) i)
      variable_local id pol bs (c ∷ cs) s a b = λ i. if (p.preserved (p.rep id))
          (λ _. do
            x ← expansion_local id (c ∷ cs) pol s b i
            preserving p id pol x)
          (λ _. expansion_local id (c ∷ cs) pol s b i)

      inner_local : (id : ℕ) (l u : List ℕ) (pol : Polarity) → S id → All S (l ++ u)
          → canonicalize_inner p t v id l u pol ≡ canonicalize_inner p t' v' id l u pol
      unfolding canonicalize_inner
      inner_local id l u pol s a =
          let bs = bounds_of pol l u in
          let known : All S bs = all_bounds S pol l u a in
          named_local (l ++ u) a (λ b r i. visits b r i pol)
          ((λ i. do
            _ ← note (p.rep id) pol
            variable_local id pol bs (filter (λ (b : ℕ). not (is_variable (t b))) bs) s known (all_sieve S _ bs known) i)
          ∙ ap (λ (cs : List ℕ). do
            _ ← note (p.rep id) pol
            variable_rule p t' v' id pol bs cs)
          (filter_local S (λ b r. ap (λ (e : Entry). not (is_variable e)) (same b r)) bs known))

      fields_local : (pol : Polarity) (fs : List Field) → All S (field_types fs) → fields_rule v pol fs ≡ fields_rule v' pol fs
      fields_local pol [] a = refl
      fields_local pol (f ∷ fs) a = λ i. do
        x ← visits f.type a.0 i pol
        gs ← fields_local pol fs a.1 i
        give (record { key = f.key; type = x } ∷ gs)

      dyn_local : (pol : Polarity) (d : Option ℕ) → All S (dyn_ids d) → dyn_rule v pol d ≡ dyn_rule v' pol d
      dyn_local pol none a = refl
      dyn_local pol (some d) a = λ i. do
        x ← visits d a.0 i pol
        give (some x)

      retry_local : (a b : ℕ) (pol : Polarity) (ys : List ℕ) → S a → S b → inter_retry p t v a b pol ys ≡ inter_retry p t' v' a b pol ys
      unfolding inter_retry
      retry_local a b pol ys r s = λ i. do
        x ← visits a r i (turned (same a r i) pol)
        y ← visits b s i (turned (same b s i) pol)
        zs ← flattened intersection_kind (x ∷ y ∷ [])
        ms ← concrete_of p zs
        simple ← simplify_union_neg_intersection p.functor ms
        contradicts ← ask (λ (ns : List Node). has_type_contradiction p.functor ns simple)
        if contradicts (λ _. store Bottom) (λ _. inter_rest p pol ys simple)

      inter_local : (a b : ℕ) (pol : Polarity) → S a → S b → inter_rule p t v a b pol ≡ inter_rule p t' v' a b pol
      unfolding inter_rule
      inter_local a b pol r s = λ i. do
        x ← visits a r i pol
        y ← visits b s i pol
        ys ← flattened intersection_kind (x ∷ y ∷ [])
        ms ← concrete_of p ys
        contradicts ← ask (λ (ns : List Node). has_type_contradiction p.functor ns ms)
        if contradicts
            (λ _. if (is_variable (same a r i) || is_variable (same b s i)) (λ _. retry_local a b pol ys r s i) (λ _. store Bottom))
            (λ _. inter_rest p pol ys ms)

      union_local : (a b : ℕ) (pol : Polarity) → S a → S b → union_rule p v a b pol ≡ union_rule p v' a b pol
      unfolding union_rule
      union_local a b pol r s = λ i. do
        x ← visits a r i pol
        y ← visits b s i pol
        ys ← flattened union_kind (x ∷ y ∷ [])
        ms ← concrete_of p ys
        xs ← union_normalized pol ms
        settle (top_if_emptied pol ms) (first_member ys) Union xs

      rule_local : (id : ℕ) (e : Entry) (pol : Polarity) → S id → All S (kids e) → rule p t v id e pol ≡ rule p t' v' id e pol
      unfolding rule
      rule_local id (var l u) pol s a = inner_local id l u pol s a
      rule_local id (prim c) pol s a = refl
      rule_local id (tyvar x) pol s a = refl
      rule_local id (list b) pol s a = λ i. do
        x ← visits b a.0 i pol
        store (ListOf x)
      rule_local id (fn b c) pol s a = λ i. do
        x ← visits b a.0 i (flip pol)
        y ← visits c a.1.0 i pol
        store (Lambda x y)
      rule_local id (set b) pol s a = λ i. do
        fs ← fields_local pol b.fields (all_front S (field_types b.fields) (dyn_ids b.dyn) a) i
        d ← dyn_local pol b.dyn (all_back S (field_types b.fields) (dyn_ids b.dyn) a) i
        store (AttrSet (record { fields = fs; dyn = d; is_open = b.is_open; optional = b.optional }))
      rule_local id (neg b) pol s a = λ i. do
        x ← visits b a.0 i (flip pol)
        negate_output_ty x
      rule_local id (named n b) pol s a = λ i. do
        x ← visits b a.0 i pol
        store (Named n x)
      rule_local id (inter b c) pol s a = inter_local b c pol a.0 a.1.0
      rule_local id (union b c) pol s a = union_local b c pol a.0 a.1.0
      rule_local id frozen pol s a = refl

      work_local : (id : ℕ) (pol : Polarity) → S id → work p t v id pol ≡ work p t' v' id pol
      work_local id pol s = λ i. do
        _ ← set_key (slot id pol) 1
        x ← (rule_local id (t id) pol s (closed id s) ∙ ap (λ (e : Entry). rule p t' v' id e pol) (same id s)) i
        _ ← set_key (slot id pol) (x + 2)
        give x

    visit_local : (f : ℕ) (id : ℕ) → S id → visit f p t id ≡ visit f p t' id
    unfolding visit
    visit_local zero id s = refl
    visit_local (suc f) id s = λ i pol. entered p id pol (work_local (visit f p t) (visit f p t') (visit_local f) id pol s i)

    pass_local : (id : ℕ) (pol : Polarity) → S id → pass p t id pol ≡ pass p t' id pol
    unfolding pass
    pass_local id pol s = ap (λ (w : Polarity → Run ℕ). w pol (fresh p.count)) (visit_local most_keys id s)

  after_local : (p : Pass) (id : ℕ) (pol : Polarity) → S id → (o : Out ℕ) → after_first p t id pol o ≡ after_first p t' id pol o
  after_local p id pol s (no k) = refl
  after_local p id pol s (ok x st) = λ i. if (any is_both st.bits) (λ _. after_second st.ops st.sorted st.bailed (pass_local (with_set p st) id pol s i))
      (λ _. shown (record { passes = 1; operations = st.ops; sorted = st.sorted; bailed = st.bailed; nodes = st.nodes; root = x }))

  pub canonicalize_local : (p : Pass) (id : ℕ) (pol : Polarity) → S id → canonicalize p t id pol ≡ canonicalize p t' id pol
  unfolding canonicalize
  canonicalize_local p id pol s = after_local p id pol s (pass p t id pol) ∙ ap (after_first p t' id pol) (pass_local p id pol s)

-- what tables have in common that can be compared
pub record Alike (old new : Table) : Type 0 where
  pub budget : old.budget ≡ new.budget
  pub count : length old.entries ≡ length new.entries
  pub names : old.names ≡ new.names
  pub pairs : old.pairs ≡ new.pairs
  pub marks : old.marks ≡ new.marks
  pub roots : old.roots ≡ new.roots

same_true : {A : Type 0} (eq : A → A → Bool) → ((x y : A) → eq x y ≡ true → x ≡ y) → (xs ys : List A) → same eq xs ys ≡ true → xs ≡ ys
same_true eq is [] [] h = refl
same_true eq is [] (y ∷ ys) h = true_false (sym h)
same_true eq is (x ∷ xs) [] h = true_false (sym h)
same_true {A} eq is (x ∷ xs) (y ∷ ys) h =
    let b = both_parts (eq x y) (λ _. same eq xs ys) h in
    ap₂ {C = List A} ◌∷◌ (is x y b.0) (same_true eq is xs ys b.1)

pair_true : (p q : Pair) → same_pair p q ≡ true → p ≡ q
pair_true p q h =
    let b = both_parts (eqb p.first q.first) _ h in
    ap₂ {C = Pair} (λ (x y : ℕ). record { first = x; second = y }) (eqb-true p.first q.first b.0) (eqb-true p.second q.second b.1)

root_true : (r s : Root) → same_root r s ≡ true → r ≡ s
root_true r s h =
    let b = both_parts (eqb r.id s.id) _ h in
    ap₂ {C = Root} (λ (x y : ℕ). record { id = x; sign = y }) (eqb-true r.id s.id b.0) (eqb-true r.sign s.sign b.1)

pub alike : (old new : Table) → comparable old new ≡ true → Alike old new
unfolding comparable
alike old new h =
    let a = both_parts (eqb old.budget new.budget) _ h in
    let b = both_parts (eqb (length old.entries) (length new.entries)) _ a.1 in
    let c = both_parts (same eq_list old.names new.names) _ b.1 in
    let d = both_parts (same same_pair old.pairs new.pairs) _ c.1 in
    let e = both_parts (eq_list old.marks new.marks) _ d.1 in
    record {
      budget = eqb-true old.budget new.budget a.0;
      count = eqb-true (length old.entries) (length new.entries) b.0;
      names = same_true eq_list eq_list_true old.names new.names c.0;
      pairs = same_true same_pair pair_true old.pairs new.pairs d.0;
      marks = eq_list_true old.marks new.marks e.0;
      roots = same_true same_root root_true old.roots new.roots e.1;
    }

-- a first pass is given the same
first_same : (old new : Table) → Alike old new → first_pass old ≡ first_pass new
unfolding first_pass representatives
first_same old new a =
    λ i. record {
      count = a.count i;
      rep = rep_in (join_pairs (upward 0 (a.count i)) (a.pairs i));
      marked = λ (id : ℕ). any (λ (m : ℕ). eqb m id) (a.marks i);
      preserved = λ (r : ℕ). false;
      budget = a.budget i;
      spent = 0;
      functor = functor_number (a.names i);
    }

chain_more : {t : Table} {id k j : ℕ} → Chain t id k → StepsTo t k j → Chain t id j
chain_more here m = onward m here
chain_more (onward n c) m = onward n (chain_more c m)

apart_turn : (old new : Table) {id k : ℕ} (b : Bool) → differs old new k ≡ b → (MeetsDifference old new id → ⊥) → Chain old id k → row_at old k ≡ row_at new k
apart_turn old new {k = k} true e h c = absurd (h (record { met = k; chain = c; different = e }))
apart_turn old new {k = k} false e h c = differs_false old new k e

-- an answer stays as it was, unless a chain of bounds or children from its root meets an entry that differs
pub answer_local : (old new : Table) → comparable old new ≡ true → (id : ℕ) → (MeetsDifference old new id → ⊥) → (pol : Polarity)
    → answer_of old id pol ≡ answer_of new id pol
unfolding answer_of
answer_local old new q id h pol =
    canonicalize_local (reader_of old) (reader_of new) (Chain old id) (λ k c. all_of (Chain old id) (kids (reader_of old k)) (λ j m. chain_more c m))
    (λ k c. ap entry_of (apart_turn old new (differs old new k) refl h c)) (first_pass old) id pol here
    ∙ ap (λ (p : Pass). canonicalize p (reader_of new) id pol) (first_same old new (alike old new q))

-- and so do its lines
pub text_local : (form : Form) (old new : Table) → comparable old new ≡ true → (id s : ℕ) → (MeetsDifference old new id → ⊥)
    → root_text form old id s ≡ root_text form new id s
unfolding root_text
text_local form old new q id s h = ap (λ (a : Answer). answer_text id s (answer_in form a)) (answer_local old new q id h (polarity_of s))
