-- What is cached of atoms, which are primitives and the negs of primitives: a Primitive and a Neg, and their keys are never in progress when
-- they are visited. So a visit to an atom gives one of these unless the pass bailed. Assumes nothing.
use mathlib.Core.Path.{◌≡◌, refl, sym, ap, ◌∙◌, subst}
use mathlib.Core.Bool.{Bool, true, false}
use Prim.Native.Nat.{ℕ, zero, suc, ◌+◌, ◌<◌}
use native.Mathlib.Omega.{arith}
use mathlib.Core.List.{List, [], ◌∷◌, ◌++◌}
use lib.ListN.{length, set as set_at, length-append, get_or-append}
use lib.Seq.{set-set, set_comm}
use borrow.Author.Tests.{eqb-true}
use Rattle.cells.specs.Part.{if, cell}
use Rattle.rules.specs.Table.{Entry, var, prim, tyvar, list, fn, set, neg, named, inter, union, frozen, kids, entry_kind, prim_entry}
use Rattle.rules.specs.Types.{Node, TyVar, Primitive, ListOf, Lambda, AttrSet, Union, Intersection, Named, Neg, Bottom, Top, kind_of, flip, State, ok, Run, ◌>>=◌, refuse, node_at, store}
use Rattle.rules.specs.Members.{negate_node, negate_by, negate_output_ty}
use Rattle.rules.specs.Canonicalizer.{Pass, Reader, Visit, variable, tick, count_one, exceeds, check_budget, slot, key_at, is_prim, is_atom, rule, work, look, entered, visit}
use Rattle.laws.specs.Sound.{Tabled}
use Rattle.rules.specs.declared.Polarity.{Polarity}
use Rattle.rules.specs.declared.Polarity.TheVariants.{Positive, Negative}
use Rattle.laws.proofs.Rows.{by_kind}
use Rattle.laws.proofs.Storing.{below_stays, node_stays, store_keeps}
use Rattle.laws.proofs.Keeping.{parted, gave, refused_not}
use Rattle.laws.proofs.Rooting.{Below}
use Rattle.laws.proofs.Moving.{Moved, Stays, Firm, Goes, Goer, firm_ticked, goes_key, goes_work, visit_goes, Any, any_stays, firm_any, mover_goes, ticked, visit_moves}
use Rattle.cells.specs.Placed.{Under}
use Rattle.cells.proofs.Choices.{true_false}

-- a key that is free or names a node of kind k
abbrev pub KeyOf : ℕ → List Node → ℕ → Type 0
KeyOf k ns zero = Unit {0}
KeyOf k ns (suc zero) = ⊥
KeyOf k ns (suc (suc x)) = (x < length ns) × (kind_of (node_at ns x) ≡ k)

key_more : (k : ℕ) (ns more : List Node) (key : ℕ) → KeyOf k ns key → KeyOf k (ns ++ more) key
key_more k ns more zero h = tt
key_more k ns more (suc zero) h = h
key_more k ns more (suc (suc x)) h =
    let lt = h.0 in (omega (arith, length-append ns more), ap kind_of (get_or-append ns more Bottom x lt) ∙ h.1)

key_for : (k : ℕ) (ns : List Node) (x : ℕ) → x < length ns → kind_of (node_at ns x) ≡ k → KeyOf k ns (x + 2)
key_for k ns x h e = let z : suc (suc x) ≡ x + 2 = omega arith in subst (KeyOf k ns) z (h, e)

-- what holds of a key that is set, if that it is set to does, and of the other keys as before
key_at_lem : (ks : List ℕ) (k y j : ℕ) (P : ℕ → Type 0) → (j ≡ k → P y) → P (cell ks j) → P (cell (set_at ks k y) j)
key_at_lem [] k y j P f h = h
key_at_lem (a ∷ ks) zero y zero P f h = f refl
key_at_lem (a ∷ ks) zero y (suc j) P f h = h
key_at_lem (a ∷ ks) (suc k) y zero P f h = h
key_at_lem (a ∷ ks) (suc k) y (suc j) P f h = key_at_lem ks k y j P (λ e. f (ap suc e)) h

slot_id : (i j : ℕ) (q r : Polarity) → slot i q ≡ slot j r → i ≡ j
slot_id i j Positive Positive e = omega arith
slot_id i j Positive Negative e = omega arith
slot_id i j Negative Positive e = omega arith
slot_id i j Negative Negative e = omega arith

module _ (t : Reader) where
  -- of primitives
  pub record Leaves (ns : List Node) (ks : List ℕ) : Type 0 where
    pub is : (id c : ℕ) (pol : Polarity) → t id ≡ prim c → KeyOf 1 ns (cell ks (slot id pol))

  -- and of negs of primitives
  pub record Cached (ns : List Node) (ks : List ℕ) : Type 0 where
    pub leaves : Leaves ns ks
    pub negs : (id a c : ℕ) (pol : Polarity) → t id ≡ neg a → t a ≡ prim c → KeyOf 8 ns (cell ks (slot id pol))

  pub cached_stays : Stays Cached
  cached_stays ns more ks h =
      record {
        leaves = record { is = λ id c pol e. key_more 1 ns more (cell ks (slot id pol)) (h.leaves.is id c pol e) };
        negs = λ id a c pol e q. key_more 8 ns more (cell ks (slot id pol)) (h.negs id a c pol e q);
      }

  cached_grown : (ns ns' more : List Node) (ks : List ℕ) → ns' ≡ ns ++ more → Cached ns ks → Cached ns' ks
  cached_grown ns ns' more ks e h = subst (λ (l : List Node). Cached l ks) (sym e) (cached_stays ns more ks h)

  leaves_set : (ns : List Node) (ks : List ℕ) (id : ℕ) (pol : Polarity) (y : ℕ) → ((c : ℕ) → t id ≡ prim c → KeyOf 1 ns y) → Leaves ns ks → Leaves ns (set_at ks (slot id pol) y)
  leaves_set ns ks id pol y g l =
      record { is = λ i c q h. key_at_lem ks (slot id pol) y (slot i q) (KeyOf 1 ns) (λ e. g c (ap t (sym (slot_id i id q pol e)) ∙ h)) (l.is i c q h) }

  cached_set : (ns : List Node) (ks : List ℕ) (id : ℕ) (pol : Polarity) (y : ℕ) → ((c : ℕ) → t id ≡ prim c → KeyOf 1 ns y)
      → ((a c : ℕ) → t id ≡ neg a → t a ≡ prim c → KeyOf 8 ns y) → Cached ns ks → Cached ns (set_at ks (slot id pol) y)
  cached_set ns ks id pol y g f l =
      record {
        leaves = leaves_set ns ks id pol y g l.leaves;
        negs = λ i a c q h r. key_at_lem ks (slot id pol) y (slot i q) (KeyOf 8 ns) (λ e. f a c (ap t (sym (slot_id i id q pol e)) ∙ h) r) (l.negs i a c q h r);
      }

-- a primitive, the neg of a primitive, or neither
data IsPrim (e : Entry) : Type 0 where
  is : (c : ℕ) → e ≡ prim c → IsPrim e
  isnt : (entry_kind e ≡ prim_entry → ⊥) → IsPrim e

prim_or : (e : Entry) → IsPrim e
prim_or (var l u) = isnt (λ h. omega arith)
prim_or (prim c) = is c refl
prim_or (tyvar x) = isnt (λ h. omega arith)
prim_or (list a) = isnt (λ h. omega arith)
prim_or (fn a b) = isnt (λ h. omega arith)
prim_or (set a) = isnt (λ h. omega arith)
prim_or (neg a) = isnt (λ h. omega arith)
prim_or (named n a) = isnt (λ h. omega arith)
prim_or (inter a b) = isnt (λ h. omega arith)
prim_or (union a b) = isnt (λ h. omega arith)
prim_or frozen = isnt (λ h. omega arith)

data Sort (t : Reader) (e : Entry) : Type 0 where
  primitive : (c : ℕ) → e ≡ prim c → Sort t e
  negative : (a c : ℕ) → e ≡ neg a → t a ≡ prim c → Sort t e
  other : (is_atom t e ≡ true → ⊥) → ((c : ℕ) → e ≡ prim c → ⊥) → ((a c : ℕ) → e ≡ neg a → t a ≡ prim c → ⊥) → Sort t e

prim_atom : (e : Entry) → (entry_kind e ≡ prim_entry → ⊥) → if (is_prim e) (λ _. true) (λ _. false) ≡ true → ⊥
prim_atom e n h = atom_turn (is_prim e) refl h where
  atom_turn : (b : Bool) → is_prim e ≡ b → if b (λ _. true) (λ _. false) ≡ true → ⊥
  atom_turn true q h = n (eqb-true (entry_kind e) prim_entry q)
  atom_turn false q h = true_false (sym h)

module _ (t : Reader) where
  neg_sort : (a : ℕ) → IsPrim (t a) → Sort t (neg a)
  neg_sort a (is c h) = negative a c refl h
  neg_sort a (isnt n) =
      other (λ h. prim_atom (t a) n h) (λ c h. let z = ap entry_kind h in omega arith)
      (λ a' c h q. let e : a ≡ a' = cc in n (ap (λ (i : ℕ). entry_kind (t i)) e ∙ ap entry_kind q))

  plain_sort : (e : Entry) → (is_atom t e ≡ true → ⊥) → (entry_kind e ≡ 3 → ⊥) → (entry_kind e ≡ 8 → ⊥) → Sort t e
  plain_sort e a m n = other a (λ c h. m (ap entry_kind h)) (λ a c h q. n (ap entry_kind h))

  sort_of : (e : Entry) → Sort t e
  sort_of (var l u) = plain_sort (var l u) (λ h. true_false (sym h)) (λ h. omega arith) (λ h. omega arith)
  sort_of (prim c) = primitive c refl
  sort_of (tyvar x) = plain_sort (tyvar x) (λ h. true_false (sym h)) (λ h. omega arith) (λ h. omega arith)
  sort_of (list a) = plain_sort (list a) (λ h. true_false (sym h)) (λ h. omega arith) (λ h. omega arith)
  sort_of (fn a b) = plain_sort (fn a b) (λ h. true_false (sym h)) (λ h. omega arith) (λ h. omega arith)
  sort_of (set a) = plain_sort (set a) (λ h. true_false (sym h)) (λ h. omega arith) (λ h. omega arith)
  sort_of (neg a) = neg_sort a (prim_or (t a))
  sort_of (named n a) = plain_sort (named n a) (λ h. true_false (sym h)) (λ h. omega arith) (λ h. omega arith)
  sort_of (inter a b) = plain_sort (inter a b) (λ h. true_false (sym h)) (λ h. omega arith) (λ h. omega arith)
  sort_of (union a b) = plain_sort (union a b) (λ h. true_false (sym h)) (λ h. omega arith) (λ h. omega arith)
  sort_of frozen = plain_sort frozen (λ h. true_false (sym h)) (λ h. omega arith) (λ h. omega arith)

-- the ways a visit goes
data Entered (p : Pass) (id : ℕ) (pol : Polarity) (w : Run ℕ) (st : State) (x : ℕ) (st' : State) : Type 0 where
  stopped : (s : State) → s.bailed ≡ true → s.keys ≡ st.keys → variable p id s ≡ ok x st' → Entered p id pol w st x st'
  progress : cell st.keys (slot id pol) ≡ 1 → Entered p id pol w st x st'
  found : cell st.keys (slot id pol) ≡ suc (suc x) → ticked p st ≡ st' → Entered p id pol w st x st'
  worked : cell st.keys (slot id pol) ≡ 0 → w (ticked p st) ≡ ok x st' → Entered p id pol w st x st'

module _ (p : Pass) (id : ℕ) (pol : Polarity) (w : Run ℕ) (st : State) (x : ℕ) (st' : State) where
  look_way : (key : ℕ) → cell st.keys (slot id pol) ≡ key → look p id w key (ticked p st) ≡ ok x st' → Entered p id pol w st x st'
  look_way zero h e = worked h e
  look_way (suc zero) h e = progress h
  look_way (suc (suc y)) h e = let q : y ≡ x = cc in let z : ticked p st ≡ st' = cc in found (h ∙ ap (λ (k : ℕ). suc (suc k)) q) z

  over_way : (b : Bool) → exceeds p (tick st.ops) ≡ b
      → if b (λ _. variable p id) (λ _. key_at (slot id pol) >>= look p id w) (ticked p st) ≡ ok x st' → Entered p id pol w st x st'
  over_way true h e = stopped (ticked p st) h refl e
  over_way false h e = look_way (cell st.keys (slot id pol)) refl e

  bail_way : (b : Bool) → st.bailed ≡ b
      → if b (λ _. variable p id) (λ _. count_one >>= (λ _. check_budget p >>= (λ (over : Bool). if over (λ _. variable p id) (λ _. key_at (slot id pol) >>= look p id w)))) st ≡ ok x st'
      → Entered p id pol w st x st'
  bail_way true h e = stopped st h refl e
  bail_way false h e = over_way (exceeds p (tick st.ops)) refl e

  enter_way : entered p id pol w st ≡ ok x st' → Entered p id pol w st x st'
  unfolding entered
  enter_way e = bail_way st.bailed refl e

-- a visit to a primitive: a Primitive, or the TyVar of a pass that bailed; only its own key may be named
data Keyed (k : ℕ) (ks : List ℕ) (x : ℕ) (st' : State) : Type 0 where
  same : st'.keys ≡ ks → Keyed k ks x st'
  given : kind_of (node_at st'.nodes x) ≡ 1 → st'.keys ≡ set_at ks k (x + 2) → Keyed k ks x st'

record Leaf (k : ℕ) (ks : List ℕ) (x : ℕ) (st' : State) : Type 0 where
  low : kind_of (node_at st'.nodes x) < 2
  kind : st'.bailed ≡ false → kind_of (node_at st'.nodes x) ≡ 1
  keys : Keyed k ks x st'

leaf_stopped : (p : Pass) (id k : ℕ) (ks : List ℕ) (s : State) (x : ℕ) (st' : State) → s.bailed ≡ true → s.keys ≡ ks → variable p id s ≡ ok x st' → Leaf k ks x st'
leaf_stopped p id k ks s x st' b h e =
    let m = store_keeps (TyVar (p.rep id)) s x st' e in
    record {
      low = omega (arith, ap kind_of m.node);
      kind = λ q. true_false (sym b ∙ sym m.grows.bailed ∙ q);
      keys = same (m.grows.keys ∙ h);
    }

-- the state whose key k is taken
abbrev taken : ℕ → State → State
taken k s = record { nodes = s.nodes; cells = s.cells; keys = set_at s.keys k 1; bits = s.bits; ops = s.ops; sorted = s.sorted; bailed = s.bailed }

record Primed (k : ℕ) (ks : List ℕ) (x : ℕ) (st' : State) : Type 0 where
  kind : kind_of (node_at st'.nodes x) ≡ 1
  keys : st'.keys ≡ set_at ks k (x + 2)

module _ (p : Pass) (t : Reader) where
  prim_work : (v : Visit) (id c : ℕ) (pol : Polarity) (s : State) (x : ℕ) (st' : State) → t id ≡ prim c → work p t v id pol s ≡ ok x st' → Primed (slot id pol) s.keys x st'
  unfolding rule
  prim_work v id c pol s x st' h e =
      let k = slot id pol in
      let m = parted (rule p t v id (t id) pol) _ (taken k s) x st' e in
      let g = store_keeps (Primitive c) (taken k s) m.value m.between (sym (ap (λ (n : Entry). rule p t v id n pol (taken k s)) h) ∙ m.first) in
      gave (Primed k s.keys) m.second
      (record { kind = ap kind_of g.node; keys = ap (λ (ks : List ℕ). set_at ks k (m.value + 2)) g.grows.keys ∙ set-set s.keys k 1 (m.value + 2) })

  leaf_by : (id : ℕ) (pol : Polarity) (w : Run ℕ) (st : State) (x : ℕ) (st' : State) → KeyOf 1 st.nodes (cell st.keys (slot id pol))
      → (w (ticked p st) ≡ ok x st' → Primed (slot id pol) st.keys x st') → Entered p id pol w st x st' → Leaf (slot id pol) st.keys x st'
  leaf_by id pol w st x st' l f (stopped s b h e) = leaf_stopped p id (slot id pol) st.keys s x st' b h e
  leaf_by id pol w st x st' l f (progress h) = absurd (subst (KeyOf 1 st.nodes) h l)
  leaf_by id pol w st x st' l f (found h e) =
      let k = (subst (KeyOf 1 st.nodes) h l).1 in
      subst (Leaf (slot id pol) st.keys x) e (record { low = omega arith; kind = λ q. k; keys = same refl })
  leaf_by id pol w st x st' l f (worked h e) =
      let m = f e in let k = m.kind in record { low = omega arith; kind = λ q. k; keys = given k m.keys }

  prim_visit : (f id c : ℕ) (pol : Polarity) (st : State) (x : ℕ) (st' : State) → t id ≡ prim c → Leaves t st.nodes st.keys → visit f p t id pol st ≡ ok x st'
      → Leaf (slot id pol) st.keys x st'
  unfolding visit
  prim_visit zero id c pol st x st' h l e = leaf_by id pol (refuse 6) st x st' (l.is id c pol h) (λ q. refused_not q) (enter_way p id pol (refuse 6) st x st' e)
  prim_visit (suc f) id c pol st x st' h l e =
      leaf_by id pol (work p t (visit f p t) id pol) st x st' (l.is id c pol h) (λ q. prim_work (visit f p t) id c pol (ticked p st) x st' h q)
      (enter_way p id pol (work p t (visit f p t) id pol) st x st' e)

-- the negation of a Primitive or a TyVar is stored
neg_low : (f : ℕ → Run ℕ) (x : ℕ) (n : Node) → kind_of n < 2 → negate_node f x n ≡ store (Neg x)
neg_low f x (TyVar a) h = refl
neg_low f x (Primitive c) h = refl
neg_low f x (ListOf a) h = absurd (omega arith)
neg_low f x (Lambda a b) h = absurd (omega arith)
neg_low f x (AttrSet a) h = absurd (omega arith)
neg_low f x (Union ms) h = absurd (omega arith)
neg_low f x (Intersection ms) h = absurd (omega arith)
neg_low f x (Named n a) h = absurd (omega arith)
neg_low f x (Neg a) h = absurd (omega arith)
neg_low f x Bottom h = absurd (omega arith)
neg_low f x Top h = absurd (omega arith)

negate_low : (x : ℕ) (st : State) (y : ℕ) (st' : State) → kind_of (node_at st.nodes x) < 2 → negate_output_ty x st ≡ ok y st' → store (Neg x) st ≡ ok y st'
unfolding negate_output_ty
negate_low x st y st' h e = sym (ap (λ (m : Run ℕ). m st) (neg_low (negate_by x) x (node_at st.nodes x) h)) ∙ e

record Negated (t : Reader) (x : ℕ) (st' : State) : Type 0 where
  kind : kind_of (node_at st'.nodes x) ≡ 8
  cached : Cached t st'.nodes st'.keys

module _ (p : Pass) (t : Reader) (b : Tabled p t) where
  -- what is cached once the key of the neg id is named y, after the visit to its primitive a
  module _ (id a c : ℕ) (pol : Polarity) (h : t id ≡ neg a) (q : t a ≡ prim c) where
    apart : slot a (flip pol) ≡ slot id pol → ⊥
    apart e = let z = sym (ap entry_kind q) ∙ ap (λ (i : ℕ). entry_kind (t i)) (slot_id a id (flip pol) pol e) ∙ ap entry_kind h in omega arith

    named_neg : (ns : List Node) (ks : List ℕ) (y : ℕ) → y < length ns → kind_of (node_at ns y) ≡ 8 → Cached t ns ks → Cached t ns (set_at ks (slot id pol) (y + 2))
    named_neg ns ks y l k g =
        cached_set t ns ks id pol (y + 2) (λ d e. let z = sym (ap entry_kind h) ∙ ap entry_kind e in absurd (omega arith)) (λ _ _ _ _. key_for 8 ns y l k) g

    named_prim : (ns : List Node) (ks : List ℕ) (x : ℕ) → x < length ns → kind_of (node_at ns x) ≡ 1 → Cached t ns ks → Cached t ns (set_at ks (slot a (flip pol)) (x + 2))
    named_prim ns ks x l k g =
        cached_set t ns ks a (flip pol) (x + 2) (λ _ _. key_for 1 ns x l k) (λ d e r _. let z = sym (ap entry_kind q) ∙ ap entry_kind r in absurd (omega arith)) g

    after_neg : (ns : List Node) (ks : List ℕ) (x y : ℕ) (s : State) → x < length ns → y < length ns → kind_of (node_at ns y) ≡ 8 → (kind_of (node_at s.nodes x) ≡ 1 → kind_of (node_at ns x) ≡ 1)
        → Keyed (slot a (flip pol)) (set_at ks (slot id pol) 1) x s → Cached t ns ks → Cached t ns (set_at s.keys (slot id pol) (y + 2))
    after_neg ns ks x y s l m k i (same e) g =
        subst (Cached t ns) (sym (ap (λ (w : List ℕ). set_at w (slot id pol) (y + 2)) e ∙ set-set ks (slot id pol) 1 (y + 2))) (named_neg ns ks y m k g)
    after_neg ns ks x y s l m k i (given r e) g =
        subst (Cached t ns)
        (sym (ap (λ (w : List ℕ). set_at w (slot id pol) (y + 2)) e
        ∙ set_comm (set_at ks (slot id pol) 1) (slot a (flip pol)) (slot id pol) (x + 2) (y + 2) apart
        ∙ ap (λ (w : List ℕ). set_at w (slot a (flip pol)) (x + 2)) (set-set ks (slot id pol) 1 (y + 2))))
        (named_prim ns (set_at ks (slot id pol) (y + 2)) x l (i r) (named_neg ns ks y m k g))

    neg_work : (f : ℕ) (s : State) (x : ℕ) (st' : State) → a < p.count → Firm p.count (Cached t) s → work p t (visit f p t) id pol s ≡ ok x st' → Negated t x st'
    unfolding rule
    neg_work f s x st' l g e =
        let k = slot id pol in
        let v = visit f p t in
        let m = parted (rule p t v id (t id) pol) _ (taken k s) x st' e in
        let r = parted (v a (flip pol)) negate_output_ty (taken k s) m.value m.between (sym (ap (λ (n : Entry). rule p t v id n pol (taken k s)) h) ∙ m.first) in
        let w = goes_key p.count t Any any_stays k 1 s (omega arith) (omega arith) tt (firm_any g.steady g.rooted) tt (taken k s) refl in
        let d = visit_moves p t b f a (flip pol) (taken k s) r.value r.between l w.firm.steady w.firm.rooted r.first in
        let o = leaves_set t s.nodes s.keys id pol 1 (λ c e. let z = sym (ap entry_kind h) ∙ ap entry_kind e in absurd (omega arith)) g.held.leaves in
        let i = prim_visit p t f a c (flip pol) (taken k s) r.value r.between q o r.first in
        let n = store_keeps (Neg r.value) r.between m.value m.between (negate_low r.value r.between m.value m.between i.low r.second) in
        let u = cached_grown t s.nodes r.between.nodes d.0.more s.keys d.0.nodes g.held in
        let j = cached_grown t r.between.nodes m.between.nodes n.grows.more s.keys n.grows.nodes u in
        gave (Negated t) m.second
        (record {
          kind = ap kind_of n.node;
          cached = subst (λ (ks : List ℕ). Cached t m.between.nodes (set_at ks k (m.value + 2))) (sym n.grows.keys)
              (after_neg m.between.nodes s.keys r.value m.value r.between (below_stays n.grows d.1) n.below (ap kind_of n.node)
              (λ z. ap kind_of (node_stays n.grows d.1) ∙ z) i.keys j);
        })

  -- a free key worked out
  works_alike : (f : ℕ) (id : ℕ) (pol : Polarity) (st : State) → id < p.count → Firm p.count (Cached t) st
      → ((x : ℕ) (st' : State) → x < length st'.nodes → Moved p.count t st st' → work p t (visit f p t) id pol st ≡ ok x st' → Cached t st'.nodes st'.keys)
      → Goes p.count t (Cached t) Below (work p t (visit f p t) id pol) st
  works_alike f id pol st h g k x st' e =
      let w = goes_work p t b Any any_stays (visit f p t) (mover_goes p t (visit f p t) (visit_moves p t b f)) id pol st h (λ ns ks i. tt) (λ ns ks x l i. tt)
      (firm_any g.steady g.rooted) x st' e in
      record { moved = w.moved; firm = record { steady = w.firm.steady; rooted = w.firm.rooted; held = k x st' w.fact w.moved e }; fact = w.fact }

  neg_known : (id a : ℕ) → id < p.count → t id ≡ neg a → a < p.count
  neg_known id a h e = (subst (λ (n : Entry). Under p.count (kids n)) e (b.known id h)).0

  works_by : (f : ℕ) → Goer p t (Cached t) (visit f p t) → (id : ℕ) (pol : Polarity) (st : State) → id < p.count → Firm p.count (Cached t) st → Sort t (t id)
      → Goes p.count t (Cached t) Below (work p t (visit f p t) id pol) st
  works_by f v id pol st h g (primitive c q) =
      works_alike f id pol st h g
      (λ x st' l m e.
      let w = prim_work p t (visit f p t) id c pol st x st' q e in
      subst (Cached t st'.nodes) (sym w.keys)
      (cached_set t st'.nodes st.keys id pol (x + 2) (λ _ _. key_for 1 st'.nodes x l w.kind)
      (λ a d r _. let z = sym (ap entry_kind q) ∙ ap entry_kind r in absurd (omega arith))
      (cached_grown t st.nodes st'.nodes m.more st.keys m.nodes g.held)))
  works_by f v id pol st h g (negative a c q r) =
      works_alike f id pol st h g (λ x st' l m e. (neg_work id a c pol q r f st x st' (neg_known id a h q) g e).cached)
  works_by f v id pol st h g (other n m k) =
      goes_work p t b (Cached t) (cached_stays t) (visit f p t) v id pol st h
      (λ ns ks i. cached_set t ns ks id pol 1 (λ c e. absurd (m c e)) (λ a c e q. absurd (k a c e q)) i)
      (λ ns ks x l i. cached_set t ns ks id pol (x + 2) (λ c e. absurd (m c e)) (λ a c e q. absurd (k a c e q)) i) g

  -- what is cached of atoms stays so
  pub cached_goes : (f : ℕ) → Goer p t (Cached t) (visit f p t)
  cached_goes f = visit_goes p t (Cached t) (cached_stays t) b (λ c v id pol st h g e. works_by c v id pol st h g (sort_of t (t id))) f

-- a Primitive or a Neg
abbrev pub Solid : Node → Type 0
Solid (TyVar x) = ⊥
Solid (Primitive c) = Unit {0}
Solid (ListOf a) = ⊥
Solid (Lambda a b) = ⊥
Solid (AttrSet a) = ⊥
Solid (Union ms) = ⊥
Solid (Intersection ms) = ⊥
Solid (Named n a) = ⊥
Solid (Neg a) = Unit {0}
Solid Bottom = ⊥
Solid Top = ⊥

module _ (p : Pass) (t : Reader) (b : Tabled p t) where
  neg_by : (id : ℕ) (pol : Polarity) (w : Run ℕ) (st : State) (x : ℕ) (st' : State) → st'.bailed ≡ false → KeyOf 8 st.nodes (cell st.keys (slot id pol))
      → (w (ticked p st) ≡ ok x st' → kind_of (node_at st'.nodes x) ≡ 8) → Entered p id pol w st x st' → kind_of (node_at st'.nodes x) ≡ 8
  neg_by id pol w st x st' n l f (stopped s b h e) = true_false (sym b ∙ sym (store_keeps (TyVar (p.rep id)) s x st' e).grows.bailed ∙ n)
  neg_by id pol w st x st' n l f (progress h) = absurd (subst (KeyOf 8 st.nodes) h l)
  neg_by id pol w st x st' n l f (found h e) =
      subst (λ (s : State). kind_of (node_at s.nodes x) ≡ 8) e (subst (KeyOf 8 st.nodes) h l).1
  neg_by id pol w st x st' n l f (worked h e) = f e

  neg_visit : (f id a c : ℕ) (pol : Polarity) (st : State) (x : ℕ) (st' : State) → t id ≡ neg a → t a ≡ prim c → id < p.count → Firm p.count (Cached t) st
      → st'.bailed ≡ false → visit f p t id pol st ≡ ok x st' → kind_of (node_at st'.nodes x) ≡ 8
  unfolding visit
  neg_visit zero id a c pol st x st' h q l g n e =
      neg_by id pol (refuse 6) st x st' n (g.held.negs id a c pol h q) (λ r. refused_not r) (enter_way p id pol (refuse 6) st x st' e)
  neg_visit (suc f) id a c pol st x st' h q l g n e =
      neg_by id pol (work p t (visit f p t) id pol) st x st' n (g.held.negs id a c pol h q)
      (λ r. (neg_work p t b id a c pol h q f (ticked p st) x st' (neg_known p t b id a l h) (firm_ticked p.count t (Cached t) (cached_stays t) p st g) r).kind)
      (enter_way p id pol (work p t (visit f p t) id pol) st x st' e)

  atom_by : (f id : ℕ) (pol : Polarity) (st : State) (x : ℕ) (st' : State) → id < p.count → is_atom t (t id) ≡ true → Firm p.count (Cached t) st
      → visit f p t id pol st ≡ ok x st' → st'.bailed ≡ false → Sort t (t id) → Solid (node_at st'.nodes x)
  atom_by f id pol st x st' h a g e n (primitive c q) =
      by_kind (node_at st'.nodes x) Solid 1 ((prim_visit p t f id c pol st x st' q g.held.leaves e).kind n) tt
  atom_by f id pol st x st' h a g e n (negative d c q r) = by_kind (node_at st'.nodes x) Solid 8 (neg_visit f id d c pol st x st' q r h g n e) tt
  atom_by f id pol st x st' h a g e n (other o m k) = absurd (o a)

  -- a visit to an atom gives a Primitive or a Neg, unless the pass bailed
  pub visit_atom : (f id : ℕ) (pol : Polarity) (st : State) (x : ℕ) (st' : State) → id < p.count → is_atom t (t id) ≡ true → Firm p.count (Cached t) st
      → visit f p t id pol st ≡ ok x st' → st'.bailed ≡ false → Solid (node_at st'.nodes x)
  visit_atom f id pol st x st' h a g e n = atom_by f id pol st x st' h a g e n (sort_of t (t id))
