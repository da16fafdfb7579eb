-- What a visit leaves: nodes are only added at the end, a steady state stays steady, the load never rises; and it gives a node.
-- Assumes nothing.
use mathlib.Core.Path.{◌≡◌, refl, sym, ap, ◌∙◌, subst}
use mathlib.Core.Bool.{Bool, true, false, not, ◌||◌}
use Prim.Native.Nat.{ℕ, zero, suc, ◌+◌, ◌*◌, ◌≤◌, ◌<◌}
use native.Mathlib.Omega.{arith}
use native.Mathlib.Nat.{not-suc-le-zero}
use mathlib.Core.List.{List, [], ◌∷◌, ◌++◌, append-nil, append_assoc}
use lib.ListN.{length, set as set_at, length-append, length-set, length-replicate}
use lib.Dec.{ltb}
use borrow.Author.Tests.{ltb-true}
use Rattle.cells.specs.Part.{if, cell}
use Rattle.rules.specs.Plain.{filter, empty, both}
use Rattle.rules.specs.Ceilings.{most_operations}
use Rattle.rules.specs.Table.{Field, Attr, Entry, var, prim, tyvar, list, fn, set, neg, named, inter, union, frozen, field_types, field_keys, dyn_ids, kids, as_set}
use Rattle.rules.specs.Types.{Node, Primitive, ListOf, Lambda, AttrSet, Union, Intersection, Named, Bottom, Top, as_attr, children, flip, State, ok, Run, ◌>>=◌, give}
use Rattle.rules.specs.Types.{refuse, store, union_kind, intersection_kind}
use Rattle.rules.specs.Members.{add_all, each, remove_tautological_pairs, absorb_subsumed_union_members, merge_attrset_intersection, remove_redundant_negations}
use Rattle.rules.specs.Members.{has_type_contradiction, simplify_union_neg_intersection, factor_shared_from_intersection, negate_output_ty}
use Rattle.rules.specs.Canonicalizer.{Pass, Reader, Visit, variable, add_bit, note, tick, count_one, exceeds, check_budget, slot, key_at, set_key, should_drop_filler}
use Rattle.rules.specs.Canonicalizer.{flattened, composite_kind, settle, top_if_emptied, deduplicated, normalized, expand_bounds, is_variable, is_named, lowers, uppers}
use Rattle.rules.specs.Canonicalizer.{begin_list, Begun, began, begin, expand_bounds_empty_fallback, chain, expansion, bounds_of, preserving, variable_rule, named_bound}
use Rattle.rules.specs.Canonicalizer.{canonicalize_inner, fields_rule, dyn_rule, first_member, inter_rest, turned, inter_retry, inter_rule, union_normalized, union_rule, rule}
use Rattle.rules.specs.Canonicalizer.{work, look, entered, visit, fresh}
use Rattle.laws.specs.Sound.{Orderly, OrderlySet, Steady, load, Tabled}
use Rattle.rules.specs.declared.Polarity.{Polarity}
use Rattle.rules.specs.declared.Polarity.TheVariants.{Positive, Negative}
use Rattle.laws.proofs.Storing.{Rooted}
use Rattle.laws.proofs.Keeping.{Later, later_none, later_steady, parted, gave, refused_not, Keeps, Plain, keeps_store, keeps_variable, keeps_flattened}
use Rattle.laws.proofs.Keeping.{keeps_merge, keeps_factor, keeps_simplify, keeps_negate, keeps_preserving, keeps_first_of, keeps_inter_rest}
use Rattle.laws.proofs.Keeping.{keeps_union_normalized}
use Rattle.laws.proofs.Ascending.{orderly_same}
use Rattle.laws.proofs.Loading.{load_keep}
use Rattle.laws.proofs.Rooting.{under_absorbed, under_cancelled, under_needed, Roots, Below, AllBelow, Wraps, roots_store, roots_variable, roots_flattened}
use Rattle.laws.proofs.Rooting.{roots_merge, roots_factor, roots_simplify, roots_negate, roots_preserving, roots_first_of, roots_inter_rest}
use Rattle.laws.proofs.Rooting.{roots_union_normalized}
use Rattle.laws.proofs.Filtering.{under_front, under_back, under_both, under_added, filter_under, under_most}
use Rattle.cells.specs.Placed.{Under}
use Rattle.cells.proofs.Choices.{true_false}
use Rattle.cells.proofs.Parts.{cell_zero}
use mathlib.Core.Option.{Option, none, some}

-- nodes are only added at the end, steady stays steady, bailed stays bailed, operations are counted up to their ceiling, and no key goes free
-- again
pub record Moved (n : ℕ) (t : Reader) (st st' : State) : Type 0 where
  pub more : List Node
  pub nodes : st'.nodes ≡ st.nodes ++ more
  pub steady : Steady n st → Steady n st'
  pub bailed : st.bailed ≡ true → st'.bailed ≡ true
  pub counted : st.ops ≤ most_operations → st'.ops ≤ most_operations
  pub sized : length st'.keys ≡ length st.keys
  pub load : length st.keys ≡ 2 * n → load t 0 st'.keys ≤ load t 0 st.keys

pub moved_later : {n : ℕ} {t : Reader} {st st' : State} → Later st st' → Moved n t st st'
moved_later {t = t} l =
    record {
      more = l.more;
      nodes = l.nodes;
      steady = λ s. later_steady l s;
      bailed = λ h. l.bailed ∙ h;
      counted = λ h. let e = l.ops in omega arith;
      sized = ap length l.keys;
      load = λ e. let z = ap (load t 0) l.keys in omega arith;
    }

pub moved_none : {n : ℕ} {t : Reader} (st : State) → Moved n t st st
moved_none st = moved_later (later_none st)

pub moved_both : {n : ℕ} {t : Reader} {a b c : State} → Moved n t a b → Moved n t b c → Moved n t a c
moved_both {a = a} g h =
    record {
      more = g.more ++ h.more;
      nodes = h.nodes ∙ ap (λ (l : List Node). l ++ h.more) g.nodes ∙ append_assoc a.nodes g.more h.more;
      steady = λ s. h.steady (g.steady s);
      bailed = λ e. h.bailed (g.bailed e);
      counted = λ e. h.counted (g.counted e);
      sized = h.sized ∙ g.sized;
      load = λ e. omega (arith, g.load e, h.load (g.sized ∙ e));
    }

moved_length : {n : ℕ} {t : Reader} {st st' : State} → Moved n t st st' → length st.nodes ≤ length st'.nodes
moved_length {st = st} m = omega (arith, ap length m.nodes, length-append st.nodes m.more)

pub moved_under : {n : ℕ} {t : Reader} {st st' : State} (xs : List ℕ) → Moved n t st st' → Under (length st.nodes) xs → Under (length st'.nodes) xs
moved_under xs m u = under_most _ _ xs (moved_length m) u

-- what more may hold of nodes and keys, and stays when nodes are added
abbrev pub Held : Type 1
Held = List Node → List ℕ → Type 0

abbrev pub Stays : Held → Type 0
Stays I = (ns more : List Node) (ks : List ℕ) → I ns ks → I (ns ++ more) ks

-- steady, each node's children are below it, and I holds
pub record Firm (n : ℕ) (I : Held) (st : State) : Type 0 where
  pub steady : Steady n st
  pub rooted : Rooted st.nodes
  pub held : I st.nodes st.keys

pub record Went (n : ℕ) (t : Reader) (I : Held) {A : Type 0} (Q : ℕ → A → Type 0) (st : State) (a : A) (st' : State) : Type 0 where
  pub moved : Moved n t st st'
  pub firm : Firm n I st'
  pub fact : Q (length st'.nodes) a

tick_turn : (b : Bool) (n : ℕ) → ltb n most_operations ≡ b → n ≤ most_operations → if b (λ _. suc n) (λ _. n) ≤ most_operations
tick_turn true n e h = ltb-true n most_operations e
tick_turn false n e h = h

tick_most : (n : ℕ) → n ≤ most_operations → tick n ≤ most_operations
tick_most n h = tick_turn (ltb n most_operations) n refl h

-- whatever it gives, the state moved, and Q holds of the nodes after
abbrev pub Goes : ℕ → Reader → Held → {A : Type 0} → (ℕ → A → Type 0) → Run A → State → Type 0
Goes n t I {A} Q m st = (a : A) (st' : State) → m st ≡ ok a st' → Went n t I Q st a st'

-- an operation counted, and the budget looked at
abbrev pub ticked : Pass → State → State
ticked p st =
    record { nodes = st.nodes; cells = st.cells; keys = st.keys; bits = st.bits; ops = tick st.ops; sorted = st.sorted; bailed = exceeds p (tick st.ops) }

module _ (n : ℕ) (t : Reader) (I : Held) (stays : Stays I) where
  later_held : {st st' : State} → Later st st' → I st.nodes st.keys → I st'.nodes st'.keys
  later_held {st} {st'} l h =
      subst (λ (ns : List Node). I ns st'.keys) (sym l.nodes) (subst (I (st.nodes ++ l.more)) (sym l.keys) (stays st.nodes l.more st.keys h))

  pub goes_of : {A : Type 0} (Q : ℕ → A → Type 0) (m : Run A) (st : State) → Firm n I st → Keeps m → Roots Q m st → Goes n t I Q m st
  goes_of Q m st f k r a st' e =
      let l = k st a st' e in
      let g = r a st' e in
      record { moved = moved_later l; firm = record { steady = later_steady l f.steady; rooted = g.rooted; held = later_held l f.held }; fact = g.fact }

  pub goes_give : {A : Type 0} (Q : ℕ → A → Type 0) (a : A) (st : State) → Firm n I st → Q (length st.nodes) a → Goes n t I Q (give a) st
  goes_give Q a st f q b st' e = gave (Went n t I Q st) e (record { moved = moved_none st; firm = f; fact = q })

  pub goes_bind : {A B : Type 0} (P : ℕ → A → Type 0) (Q : ℕ → B → Type 0) (m : Run A) (f : A → Run B) (st : State) → Goes n t I P m st
      → ((a : A) (s : State) → length st.nodes ≤ length s.nodes → Firm n I s → P (length s.nodes) a → Goes n t I Q (f a) s) → Goes n t I Q (m >>= f) st
  goes_bind P Q m f st k l b st' e =
      let c = parted m f st b st' e in
      let g = k c.value c.between c.first in
      let h = l c.value c.between (moved_length g.moved) g.firm g.fact b st' c.second in
      record { moved = moved_both g.moved h.moved; firm = h.firm; fact = h.fact }

  goes_if : {A : Type 0} (Q : ℕ → A → Type 0) (b : Bool) (x y : Unit {0} → Run A) (st : State) → Goes n t I Q (x tt) st → Goes n t I Q (y tt) st → Goes n t I Q (if b x y) st
  goes_if Q true x y st k l = k
  goes_if Q false x y st k l = l

  goes_store : (m : Node) (st : State) → Firm n I st → OrderlySet (as_attr m) → Under (length st.nodes) (children m) → Goes n t I Below (store m) st
  goes_store m st f o u = goes_of Below (store m) st f (keeps_store m o) (roots_store m st f.rooted u)

  goes_variable : (p : Pass) (id : ℕ) (st : State) → Firm n I st → Goes n t I Below (variable p id) st
  goes_variable p id st f = goes_of Below (variable p id) st f (keeps_variable p id) (roots_variable p id st f.rooted)

  pub goes_flattened : (k : ℕ) (xs : List ℕ) (st : State) → Firm n I st → Under (length st.nodes) xs → Goes n t I AllBelow (flattened k xs) st
  goes_flattened k xs st f u = goes_of AllBelow (flattened k xs) st f (keeps_flattened k xs) (roots_flattened k xs st f.rooted u)

  pub goes_factor : (ms : List ℕ) (st : State) → Firm n I st → Under (length st.nodes) ms → Goes n t I AllBelow (factor_shared_from_intersection ms) st
  goes_factor ms st f u = goes_of AllBelow (factor_shared_from_intersection ms) st f (keeps_factor ms) (roots_factor ms st f.rooted u)

  goes_simplify : (functor : ℕ) (ms : List ℕ) (st : State) → Firm n I st → Under (length st.nodes) ms → Goes n t I AllBelow (simplify_union_neg_intersection functor ms) st
  goes_simplify functor ms st f u =
      goes_of AllBelow (simplify_union_neg_intersection functor ms) st f (keeps_simplify functor ms) (roots_simplify functor ms st f.rooted u)

  goes_inter_rest : (p : Pass) (pol : Polarity) (ys ms : List ℕ) (st : State) → Firm n I st → Under (length st.nodes) ys → Under (length st.nodes) ms
      → Goes n t I Below (inter_rest p pol ys ms) st
  goes_inter_rest p pol ys ms st f u v =
      goes_of Below (inter_rest p pol ys ms) st f (keeps_inter_rest p pol ys ms) (roots_inter_rest p pol ys ms st f.rooted u v)

  -- the result of a list, once its fallback goes
  goes_settle : (cancelled : Bool) (rest : Run ℕ) (wrap : List ℕ → Node) (xs : List ℕ) (st : State) → Plain wrap → Wraps wrap → Firm n I st → Under (length st.nodes) xs
      → Goes n t I Below rest st → Goes n t I Below (settle cancelled rest wrap xs) st
  goes_settle cancelled rest wrap [] st o w f u k = goes_if Below cancelled _ _ st (goes_store Top st f tt tt) k
  goes_settle cancelled rest wrap (x ∷ []) st o w f u k = goes_give Below x st f u.0
  goes_settle cancelled rest wrap (x ∷ y ∷ xs) st o w f u k =
      goes_store (wrap (x ∷ y ∷ xs)) st f (o (x ∷ y ∷ xs)) (w (length st.nodes) (x ∷ y ∷ xs) u)

  goes_normalized : (p : Pass) (rest : Run ℕ) (pol : Polarity) (ms : List ℕ) (st : State) → ((s : State) → Firm n I s → Goes n t I Below rest s) → Firm n I st
      → Under (length st.nodes) ms → Goes n t I Below (normalized p rest pol ms) st
  goes_normalized p rest Positive ms st k f u =
      goes_settle (top_if_emptied Positive ms) rest Union (absorb_subsumed_union_members st.nodes (remove_tautological_pairs st.nodes ms)) st
      (λ xs. tt) (λ k xs v. v) f
      (under_absorbed (length st.nodes) st.nodes (remove_tautological_pairs st.nodes ms) (under_cancelled (length st.nodes) st.nodes ms u)) (k st f)
  goes_normalized p rest Negative ms st k f u =
      goes_bind AllBelow Below (merge_attrset_intersection ms) _ st
      (goes_of AllBelow (merge_attrset_intersection ms) st f (keeps_merge ms) (roots_merge ms st f.rooted u))
      (λ one s g f v.
      let xs = remove_redundant_negations p.functor s.nodes one in
      goes_if Below (has_type_contradiction p.functor s.nodes xs) _ _ s (goes_store Bottom s f tt tt)
      (goes_bind AllBelow Below (factor_shared_from_intersection xs) _ s (goes_factor xs s f (under_needed (length s.nodes) p.functor s.nodes one v))
      (λ ys z h f w. goes_settle (top_if_emptied Negative ms) rest Intersection ys z (λ xs. tt) (λ k xs v. v) f w (k z f))))

  -- steps that store nothing: a polarity noted, an operation counted, the budget looked at, a key taken or named
  abbrev remade : State → List ℕ → List ℕ → ℕ → Bool → Bool → State
  remade st ks bs o z b = record { nodes = st.nodes; cells = st.cells; keys = ks; bits = bs; ops = o; sorted = z; bailed = b }

  abbrev pub Done : {A : Type 0} → ℕ → A → Type 0
  Done k a = Unit {0}

  went_on : {A : Type 0} (a : A) (st : State) (ks bs : List ℕ) (o : ℕ) (z b : Bool) → Firm n I st → length ks ≡ length st.keys → length bs ≡ length st.bits
      → ((k : ℕ) → cell ks k < length st.nodes + 2) → load t 0 ks ≤ load t 0 st.keys → (st.bailed ≡ true → b ≡ true)
      → (st.ops ≤ most_operations → o ≤ most_operations) → I st.nodes ks → Went n t I (Done {A = A}) st a (remade st ks bs o z b)
  went_on a st ks bs o z b f c d h l q m i =
      let steady : Steady n st → Steady n (remade st ks bs o z b) =
      λ s. record { sound = record { ordered = s.sound.ordered; counted = s.sound.counted }; keys = c ∙ s.keys; bits = d ∙ s.bits; stored = h } in
      record {
        moved = record { more = []; nodes = sym (append-nil st.nodes); steady = steady; bailed = q; counted = m; sized = c; load = λ e. l };
        firm = record { steady = steady f.steady; rooted = f.rooted; held = i };
        fact = tt;
      }

  pub goes_note : (r : ℕ) (pol : Polarity) (st : State) → Firm n I st → Goes n t I Done (note r pol) st
  goes_note r pol st f a st' e =
      gave (Went n t I Done st) e
      (went_on tt st st.keys (set_at st.bits r (add_bit (cell st.bits r) pol)) st.ops st.sorted st.bailed f refl
      (length-set st.bits r (add_bit (cell st.bits r) pol)) f.steady.stored (omega arith) (λ h. h) (λ h. h) f.held)

  pub goes_after : {A B : Type 0} (Q : ℕ → B → Type 0) (a : A) (m : Run B) (st s : State) → Went n t I (Done {A = A}) st a s → Goes n t I Q m s → (b : B) (st' : State)
      → m s ≡ ok b st' → Went n t I Q st b st'
  goes_after Q a m st s g k b st' e = let h = k b st' e in record { moved = moved_both g.moved h.moved; firm = h.firm; fact = h.fact }

  pub firm_ticked : (p : Pass) (st : State) → Firm n I st → Firm n I (ticked p st)
  firm_ticked p st f =
      let s = f.steady in
      record {
        steady = record { sound = record { ordered = s.sound.ordered; counted = s.sound.counted }; keys = s.keys; bits = s.bits; stored = s.stored };
        rooted = f.rooted;
        held = f.held;
      }

  went_ticked : (p : Pass) (st : State) → st.bailed ≡ false → Firm n I st → Went n t I (Done {A = Unit {0}}) st tt (ticked p st)
  went_ticked p st e f =
      went_on tt st st.keys st.bits (tick st.ops) st.sorted (exceeds p (tick st.ops)) f refl refl f.steady.stored (omega arith)
      (λ h. true_false (sym h ∙ e)) (tick_most st.ops) f.held

  pub named_keys : (b y : ℕ) (ks : List ℕ) (k : ℕ) → y < b → ((j : ℕ) → cell ks j < b) → (j : ℕ) → cell (set_at ks k y) j < b
  named_keys b y [] k l h j = h j
  named_keys b y (a ∷ ks) zero l h zero = l
  named_keys b y (a ∷ ks) zero l h (suc j) = h (suc j)
  named_keys b y (a ∷ ks) (suc k) l h zero = h zero
  named_keys b y (a ∷ ks) (suc k) l h (suc j) = named_keys b y ks k l (λ i. h (suc i)) j

  load_key : (ks : List ℕ) (k y : ℕ) → 0 < y → load t 0 (set_at ks k y) ≤ load t 0 ks
  load_key ks k zero h = absurd (omega arith)
  load_key ks k (suc x) h = load_keep t 0 ks k x

  pub goes_key : (k y : ℕ) (st : State) → 0 < y → y < length st.nodes + 2 → I st.nodes (set_at st.keys k y) → Firm n I st → Goes n t I Done (set_key k y) st
  goes_key k y st h l i f a st' e =
      gave (Went n t I Done st) e
      (went_on tt st (set_at st.keys k y) st.bits st.ops st.sorted st.bailed f (length-set st.keys k y) refl
      (named_keys (length st.nodes + 2) y st.keys k l f.steady.stored) (load_key st.keys k y h) (λ h. h) (λ h. h) i)

-- a visitor that goes, of the entries there are
abbrev pub Goer : Pass → Reader → Held → Visit → Type 0
Goer p t I v = (id : ℕ) (pol : Polarity) (st : State) → id < p.count → Firm p.count I st → Goes p.count t I Below (v id pol) st

lowers_known : (n : ℕ) (e : Entry) → Under n (kids e) → Under n (lowers e)
lowers_known n (var l u) h = under_front n l u h
lowers_known n (prim c) h = tt
lowers_known n (tyvar x) h = tt
lowers_known n (list a) h = tt
lowers_known n (fn a b) h = tt
lowers_known n (set a) h = tt
lowers_known n (neg a) h = tt
lowers_known n (named m a) h = tt
lowers_known n (inter a b) h = tt
lowers_known n (union a b) h = tt
lowers_known n frozen h = tt

uppers_known : (n : ℕ) (e : Entry) → Under n (kids e) → Under n (uppers e)
uppers_known n (var l u) h = under_back n l u h
uppers_known n (prim c) h = tt
uppers_known n (tyvar x) h = tt
uppers_known n (list a) h = tt
uppers_known n (fn a b) h = tt
uppers_known n (set a) h = tt
uppers_known n (neg a) h = tt
uppers_known n (named m a) h = tt
uppers_known n (inter a b) h = tt
uppers_known n (union a b) h = tt
uppers_known n frozen h = tt

unmarked_known : (n : ℕ) (b : Bool) (xs : List ℕ) → Under n xs → Under n (if b (λ _. []) (λ _. xs))
unmarked_known n true xs u = tt
unmarked_known n false xs u = u

-- the ids that a fallback begins are entries
pub begin_known : (p : Pass) (t : Reader) → Tabled p t → (id : ℕ) (pol : Polarity) → id < p.count → Under p.count (begin_list p t id pol)
begin_known p t b id Negative h = unmarked_known p.count (p.marked id || p.marked (p.rep id)) (lowers (t id)) (lowers_known p.count (t id) (b.known id h))
begin_known p t b id Positive h = filter_under _ p.count (uppers (t id)) (uppers_known p.count (t id) (b.known id h))

distinct_turn : (n : ℕ) (b : Bool) (bs : List ℕ) → Under n bs → Under n (if b (λ _. add_all [] bs) (λ _. bs))
distinct_turn n true bs u = under_added n [] bs tt u
distinct_turn n false bs u = u

pub distinct_known : (n : ℕ) (bs : List ℕ) → Under n bs → Under n (deduplicated bs)
distinct_known n bs u = distinct_turn n (ltb 16 (length bs)) bs u

pub bounds_known : (n : ℕ) (pol : Polarity) (l u : List ℕ) → Under n (l ++ u) → Under n (bounds_of pol l u)
bounds_known n Positive l u h = under_front n l u h
bounds_known n Negative l u h = under_back n l u h

-- as many answers, all nodes
pub record Answers (bs : List ℕ) (k : ℕ) (xs : List ℕ) : Type 0 where
  pub below : Under k xs
  pub many : length xs ≡ length bs

-- fields with these keys, their types nodes
pub record Typed (fs : List Field) (k : ℕ) (gs : List Field) : Type 0 where
  pub below : Under k (field_types gs)
  pub keys : field_keys gs ≡ field_keys fs

abbrev pub DynBelow : ℕ → Option ℕ → Type 0
DynBelow k d = Under k (dyn_ids d)

module _ (p : Pass) (t : Reader) (b : Tabled p t) (I : Held) (stays : Stays I) (v : Visit) (mv : Goer p t I v) where
  abbrev n : ℕ
  n = p.count

  pub goes_each : (pol : Polarity) (bs : List ℕ) (st : State) → Under n bs → Firm n I st → Goes n t I (Answers bs) (each (λ (b : ℕ). v b pol) bs) st
  goes_each pol [] st u f = goes_give n t I stays (Answers []) [] st f (record { below = tt; many = refl })
  goes_each pol (c ∷ bs) st u f =
      goes_bind n t I stays Below (Answers (c ∷ bs)) (v c pol) _ st (mv c pol st u.0 f)
      (λ x s g f h. goes_bind n t I stays (Answers bs) (Answers (c ∷ bs)) (each (λ (b : ℕ). v b pol) bs) _ s (goes_each pol bs s u.1 f)
      (λ xs z i f w. goes_give n t I stays (Answers (c ∷ bs)) (x ∷ xs) z f (record { below = (omega arith, w.below); many = ap suc w.many })))

  -- expansion of bounds and its fallback
  goes_expand : (rest : Run ℕ) → ((s : State) → Firm n I s → Goes n t I Below rest s) → (bs : List ℕ) (pol : Polarity) (st : State) → Under n bs → Firm n I st
      → Goes n t I Below (expand_bounds p v rest bs pol) st
  unfolding expand_bounds
  goes_expand rest k bs pol st u f =
      goes_bind n t I stays (Answers (deduplicated bs)) Below (each (λ (b : ℕ). v b pol) (deduplicated bs)) _ st
      (goes_each pol (deduplicated bs) st (distinct_known n bs u) f)
      (λ xs s g f w. goes_bind n t I stays AllBelow Below (flattened (composite_kind pol) xs) _ s (goes_flattened n t I stays (composite_kind pol) xs s f w.below)
      (λ ys z h f w. goes_normalized n t I stays p rest pol (filter (λ (m : ℕ). not (should_drop_filler p z.nodes m)) ys) z k f
      (filter_under _ (length z.nodes) ys w)))

  goes_fallback : (c : ℕ) (g : Begun) (id : ℕ) (pol : Polarity) (st : State) → id < n → Firm n I st → Goes n t I Below (expand_bounds_empty_fallback c p t v g id pol) st
  unfolding expand_bounds_empty_fallback
  goes_fallback zero g id pol st h f = goes_variable n t I stays p id st f
  goes_fallback (suc c) g id pol st h f =
      goes_if n t I stays Below (empty (begin_list p t id pol) || both st.bailed (λ _. began g pol)) _ _ st (goes_variable n t I stays p id st f)
      (goes_expand (expand_bounds_empty_fallback c p t v (begin st.bailed g pol) id (flip pol))
      (λ s f. goes_fallback c (begin st.bailed g pol) id (flip pol) s h f) (begin_list p t id pol) (flip pol) st (begin_known p t b id pol h) f)

  pub goes_expansion : (id : ℕ) (bs : List ℕ) (pol : Polarity) (st : State) → id < n → Under n bs → Firm n I st → Goes n t I Below (expansion p t v id bs pol) st
  goes_expansion id bs pol st h u f =
      goes_expand (expand_bounds_empty_fallback chain p t v (record { lower = false; upper = false }) id pol)
      (λ s f. goes_fallback chain (record { lower = false; upper = false }) id pol s h f) bs pol st u f

  -- a variable
  goes_variable_rule : (id : ℕ) (pol : Polarity) (bs cs : List ℕ) (st : State) → id < n → Under n bs → Under n cs → Firm n I st
      → Goes n t I Below (variable_rule p t v id pol bs cs) st
  goes_variable_rule id pol bs [] st h u w f =
      goes_if n t I stays Below (p.preserved (p.rep id)) _ _ st (goes_variable n t I stays p id st f) (goes_expansion id _ pol st h (filter_under _ n bs u) f)
  goes_variable_rule id pol bs (c ∷ cs) st h u w f =
      goes_if n t I stays Below (p.preserved (p.rep id)) _ _ st
      (goes_bind n t I stays Below Below (expansion p t v id (c ∷ cs) pol) _ st (goes_expansion id (c ∷ cs) pol st h w f)
      (λ x s g f l. goes_of n t I stays Below (preserving p id pol x) s f (keeps_preserving p id pol x) (roots_preserving p id pol x s f.rooted l)))
      (goes_expansion id (c ∷ cs) pol st h w f)

  goes_named : (hit : ℕ → Run ℕ) (miss : Run ℕ) (bs : List ℕ) (st : State) → ((c : ℕ) → c < n → Goes n t I Below (hit c) st) → Goes n t I Below miss st → Under n bs
      → Goes n t I Below (named_bound t hit miss bs) st
  goes_named hit miss [] st k l u = l
  goes_named hit miss (c ∷ bs) st k l u = goes_if n t I stays Below (is_named (t c)) _ _ st (k c u.0) (goes_named hit miss bs st k l u.1)

  goes_inner : (id : ℕ) (l u : List ℕ) (pol : Polarity) (st : State) → id < n → Under n (l ++ u) → Firm n I st → Goes n t I Below (canonicalize_inner p t v id l u pol) st
  unfolding canonicalize_inner
  goes_inner id l u pol st h w f =
      let bs = bounds_of pol l u in
      let k : Under n bs = bounds_known n pol l u w in
      let cs = filter (λ (c : ℕ). not (is_variable (t c))) bs in
      goes_named (λ (c : ℕ). v c pol) (note (p.rep id) pol >>= (λ _. variable_rule p t v id pol bs cs)) (l ++ u) st
      (λ c i. mv c pol st i f)
      (goes_bind n t I stays (Done n t I stays) Below (note (p.rep id) pol) _ st (goes_note n t I stays (p.rep id) pol st f)
      (λ _ s g f _. goes_variable_rule id pol bs cs s h k (filter_under _ n bs k) f)) w

  -- sets
  goes_fields : (pol : Polarity) (fs : List Field) (st : State) → Under n (field_types fs) → Firm n I st → Goes n t I (Typed fs) (fields_rule v pol fs) st
  goes_fields pol [] st u f = goes_give n t I stays (Typed []) [] st f (record { below = tt; keys = refl })
  goes_fields pol (c ∷ fs) st u f =
      goes_bind n t I stays Below (Typed (c ∷ fs)) (v c.type pol) _ st (mv c.type pol st u.0 f)
      (λ x s g f h. goes_bind n t I stays (Typed fs) (Typed (c ∷ fs)) (fields_rule v pol fs) _ s (goes_fields pol fs s u.1 f)
      (λ gs z i f w. goes_give n t I stays (Typed (c ∷ fs)) (record { key = c.key; type = x } ∷ gs) z f
      (record { below = (omega arith, w.below); keys = ap (λ (ks : List ℕ). c.key ∷ ks) w.keys })))

  goes_dyn : (pol : Polarity) (d : Option ℕ) (st : State) → Under n (dyn_ids d) → Firm n I st → Goes n t I DynBelow (dyn_rule v pol d) st
  goes_dyn pol none st u f = goes_give n t I stays DynBelow none st f tt
  goes_dyn pol (some d) st u f =
      goes_bind n t I stays Below DynBelow (v d pol) _ st (mv d pol st u.0 f) (λ x s g f h. goes_give n t I stays DynBelow (some x) s f (h, tt))

  goes_set : (a : Attr) (pol : Polarity) (st : State) → Under n (field_types a.fields ++ dyn_ids a.dyn) → Orderly a → Firm n I st
      → Goes n t I Below (fields_rule v pol a.fields >>=
      (λ (fs : List Field). dyn_rule v pol a.dyn >>=
      (λ (d : Option ℕ). store (AttrSet (record { fields = fs; dyn = d; is_open = a.is_open; optional = a.optional }))))) st
  goes_set a pol st u o f =
      goes_bind n t I stays (Typed a.fields) Below (fields_rule v pol a.fields) _ st (goes_fields pol a.fields st (under_front n (field_types a.fields) (dyn_ids a.dyn) u) f)
      (λ gs s g f w. goes_bind n t I stays DynBelow Below (dyn_rule v pol a.dyn) _ s (goes_dyn pol a.dyn s (under_back n (field_types a.fields) (dyn_ids a.dyn) u) f)
      (λ d z h f x. goes_store n t I stays _ z f (orderly_same a gs w.keys o)
      (under_both (length z.nodes) (field_types gs) (dyn_ids d) (under_most _ _ (field_types gs) h w.below) x)))

  -- intersections and unions
  goes_retry : (x y : ℕ) (pol : Polarity) (ys : List ℕ) (st : State) → x < n → y < n → Firm n I st → Under (length st.nodes) ys → Goes n t I Below (inter_retry p t v x y pol ys) st
  unfolding inter_retry
  goes_retry x y pol ys st h i f u =
      goes_bind n t I stays Below Below (v x (turned (t x) pol)) _ st (mv x (turned (t x) pol) st h f)
      (λ a s g f j. goes_bind n t I stays Below Below (v y (turned (t y) pol)) _ s (mv y (turned (t y) pol) s i f)
      (λ c z k f l. goes_bind n t I stays AllBelow Below (flattened intersection_kind (a ∷ c ∷ [])) _ z (goes_flattened n t I stays intersection_kind (a ∷ c ∷ []) z f (omega arith, (l, tt)))
      (λ zs r o f w.
      let ms = filter (λ (m : ℕ). not (should_drop_filler p r.nodes m)) zs in
      goes_bind n t I stays AllBelow Below (simplify_union_neg_intersection p.functor ms) _ r (goes_simplify n t I stays p.functor ms r f (filter_under _ (length r.nodes) zs w))
      (λ simple q e f w. goes_if n t I stays Below (has_type_contradiction p.functor q.nodes simple) _ _ q (goes_store n t I stays Bottom q f tt tt)
      (goes_inter_rest n t I stays p pol ys simple q f (under_most _ _ ys (omega arith) u) w)))))

  goes_inter : (x y : ℕ) (pol : Polarity) (st : State) → x < n → y < n → Firm n I st → Goes n t I Below (inter_rule p t v x y pol) st
  unfolding inter_rule
  goes_inter x y pol st h i f =
      goes_bind n t I stays Below Below (v x pol) _ st (mv x pol st h f)
      (λ a s g f j. goes_bind n t I stays Below Below (v y pol) _ s (mv y pol s i f)
      (λ c z k f l. goes_bind n t I stays AllBelow Below (flattened intersection_kind (a ∷ c ∷ [])) _ z (goes_flattened n t I stays intersection_kind (a ∷ c ∷ []) z f (omega arith, (l, tt)))
      (λ ys r o f w.
      let ms = filter (λ (m : ℕ). not (should_drop_filler p r.nodes m)) ys in
      goes_if n t I stays Below (has_type_contradiction p.functor r.nodes ms) _ _ r
      (goes_if n t I stays Below (is_variable (t x) || is_variable (t y)) _ _ r (goes_retry x y pol ys r h i f w) (goes_store n t I stays Bottom r f tt tt))
      (goes_inter_rest n t I stays p pol ys ms r f w (filter_under _ (length r.nodes) ys w)))))

  goes_union : (x y : ℕ) (pol : Polarity) (st : State) → x < n → y < n → Firm n I st → Goes n t I Below (union_rule p v x y pol) st
  unfolding union_rule
  goes_union x y pol st h i f =
      goes_bind n t I stays Below Below (v x pol) _ st (mv x pol st h f)
      (λ a s g f j. goes_bind n t I stays Below Below (v y pol) _ s (mv y pol s i f)
      (λ c z k f l. goes_bind n t I stays AllBelow Below (flattened union_kind (a ∷ c ∷ [])) _ z (goes_flattened n t I stays union_kind (a ∷ c ∷ []) z f (omega arith, (l, tt)))
      (λ ys r o f w.
      let ms = filter (λ (m : ℕ). not (should_drop_filler p r.nodes m)) ys in
      goes_bind n t I stays AllBelow Below (union_normalized pol ms) _ r
      (goes_of n t I stays AllBelow (union_normalized pol ms) r f (keeps_union_normalized pol ms) (roots_union_normalized pol ms r f.rooted (filter_under _ (length r.nodes) ys w)))
      (λ xs q e f u. goes_settle n t I stays (top_if_emptied pol ms) (first_member ys) Union xs q (λ zs. tt) (λ k zs o. o) f u
      (goes_of n t I stays Below (first_member ys) q f (keeps_first_of ys) (roots_first_of ys q f.rooted (under_most _ _ ys (omega arith) w)))))))

  -- an entry
  pub goes_rule : (id : ℕ) (e : Entry) (pol : Polarity) (st : State) → id < n → Under n (kids e) → OrderlySet (as_set e) → Firm n I st → Goes n t I Below (rule p t v id e pol) st
  unfolding rule
  goes_rule id (var l u) pol st h k o f = goes_inner id l u pol st h k f
  goes_rule id (prim c) pol st h k o f = goes_store n t I stays (Primitive c) st f tt tt
  goes_rule id (tyvar x) pol st h k o f = goes_variable n t I stays p x st f
  goes_rule id (list a) pol st h k o f =
      goes_bind n t I stays Below Below (v a pol) _ st (mv a pol st k.0 f) (λ x s g f i. goes_store n t I stays (ListOf x) s f tt (i, tt))
  goes_rule id (fn a c) pol st h k o f =
      goes_bind n t I stays Below Below (v a (flip pol)) _ st (mv a (flip pol) st k.0 f)
      (λ x s g f i. goes_bind n t I stays Below Below (v c pol) _ s (mv c pol s k.1.0 f) (λ y z j f l. goes_store n t I stays (Lambda x y) z f tt (omega arith, (l, tt))))
  goes_rule id (set a) pol st h k o f = goes_set a pol st k o f
  goes_rule id (neg a) pol st h k o f =
      goes_bind n t I stays Below Below (v a (flip pol)) _ st (mv a (flip pol) st k.0 f)
      (λ x s g f i. goes_of n t I stays Below (negate_output_ty x) s f (keeps_negate x) (roots_negate x s f.rooted i))
  goes_rule id (named m a) pol st h k o f =
      goes_bind n t I stays Below Below (v a pol) _ st (mv a pol st k.0 f) (λ x s g f i. goes_store n t I stays (Named m x) s f tt (i, tt))
  goes_rule id (inter a c) pol st h k o f = goes_inter a c pol st k.0 k.1.0 f
  goes_rule id (union a c) pol st h k o f = goes_union a c pol st k.0 k.1.0 f
  goes_rule id frozen pol st h k o f = λ a st' e. refused_not e

  -- a free key is taken and then named, if I goes along
  pub goes_work : (id : ℕ) (pol : Polarity) (st : State) → id < n → ((ns : List Node) (ks : List ℕ) → I ns ks → I ns (set_at ks (slot id pol) 1))
      → ((ns : List Node) (ks : List ℕ) (x : ℕ) → x < length ns → I ns ks → I ns (set_at ks (slot id pol) (x + 2)))
      → Firm n I st → Goes n t I Below (work p t v id pol) st
  goes_work id pol st h o c f =
      goes_bind n t I stays (Done n t I stays) Below (set_key (slot id pol) 1) _ st (goes_key n t I stays (slot id pol) 1 st (omega arith) (omega arith) (o st.nodes st.keys f.held) f)
      (λ _ s g f _. goes_bind n t I stays Below Below (rule p t v id (t id) pol) _ s (goes_rule id (t id) pol s h (b.known id h) (b.orderly id h) f)
      (λ x z i f l. goes_bind n t I stays (Done n t I stays) Below (set_key (slot id pol) (x + 2)) _ z
      (goes_key n t I stays (slot id pol) (x + 2) z (omega arith) (omega arith) (c z.nodes z.keys x l f.held) f)
      (λ _ r j f _. goes_give n t I stays Below x r f (omega arith))))

-- a visit: what it finds, or what it works out
module _ (p : Pass) (t : Reader) (I : Held) (stays : Stays I) (id : ℕ) (pol : Polarity) (w : Run ℕ)
    (k : (s : State) → Firm p.count I s → cell s.keys (slot id pol) ≡ 0 → Goes p.count t I Below w s) where
  goes_look : (key : ℕ) (st : State) → cell st.keys (slot id pol) ≡ key → Firm p.count I st → Goes p.count t I Below (look p id w key) st
  goes_look zero st e f = k st f e
  goes_look (suc zero) st e f = goes_variable p.count t I stays p id st f
  goes_look (suc (suc x)) st e f = let h = f.steady.stored (slot id pol) in goes_give p.count t I stays Below x st f (omega arith)

  entered_turn : (b : Bool) (st : State) → st.bailed ≡ b → Firm p.count I st
      → Goes p.count t I Below
      (if b (λ _. variable p id)
      (λ _. count_one >>= (λ _. check_budget p >>= (λ (over : Bool). if over (λ _. variable p id) (λ _. key_at (slot id pol) >>= look p id w))))) st
  entered_turn true st e f = goes_variable p.count t I stays p id st f
  entered_turn false st e f =
      let g = went_ticked p.count t I stays p st e f in
      goes_after p.count t I stays {A = Unit {0}} Below tt (if (exceeds p (tick st.ops)) (λ _. variable p id) (λ _. key_at (slot id pol) >>= look p id w)) st (ticked p st) g
      (goes_if p.count t I stays Below (exceeds p (tick st.ops)) _ _ (ticked p st) (goes_variable p.count t I stays p id (ticked p st) g.firm)
      (goes_look (cell st.keys (slot id pol)) (ticked p st) refl g.firm))

  goes_entered : (st : State) → Firm p.count I st → Goes p.count t I Below (entered p id pol w) st
  unfolding entered
  goes_entered st f = entered_turn st.bailed st refl f

-- every visitor of a table goes, if the work of each free key does
pub visit_goes : (p : Pass) (t : Reader) (I : Held) (stays : Stays I) → Tabled p t
    → ((f : ℕ) → Goer p t I (visit f p t) → (id : ℕ) (pol : Polarity) (st : State) → id < p.count → Firm p.count I st → cell st.keys (slot id pol) ≡ 0
    → Goes p.count t I Below (work p t (visit f p t) id pol) st)
    → (f : ℕ) → Goer p t I (visit f p t)
unfolding visit
visit_goes p t I stays b w zero id pol st h f = goes_entered p t I stays id pol (refuse 6) (λ s f z a st' e. refused_not e) st f
visit_goes p t I stays b w (suc c) id pol st h f =
    goes_entered p t I stays id pol (work p t (visit c p t) id pol) (λ s f e. w c (visit_goes p t I stays b w c) id pol s h f e) st f

-- with nothing more held
abbrev pub Any : Held
Any ns ks = Unit {0}

pub any_stays : Stays Any
any_stays ns more ks h = tt

pub firm_any : {n : ℕ} {st : State} → Steady n st → Rooted st.nodes → Firm n Any st
firm_any s r = record { steady = s; rooted = r; held = tt }

-- a visitor that moves, of the entries there are
abbrev pub Mover : Pass → Reader → Visit → Type 0
Mover p t v = (id : ℕ) (pol : Polarity) (st : State) (x : ℕ) (st' : State) → id < p.count → Steady p.count st → Rooted st.nodes → v id pol st ≡ ok x st'
    → Moved p.count t st st' × (x < length st'.nodes) × Rooted st'.nodes

pub mover_goes : (p : Pass) (t : Reader) (v : Visit) → Mover p t v → Goer p t Any v
mover_goes p t v m id pol st h f x st' e =
    let w = m id pol st x st' h f.steady f.rooted e in
    record { moved = w.0; firm = firm_any (w.0.steady f.steady) w.2; fact = w.1 }

pub visit_moves : (p : Pass) (t : Reader) → Tabled p t → (f : ℕ) → Mover p t (visit f p t)
visit_moves p t b f id pol st x st' h s r e =
    let w = visit_goes p t Any any_stays b
    (λ c v id pol st h f e. goes_work p t b Any any_stays (visit c p t) v id pol st h (λ ns ks i. tt) (λ ns ks x l i. tt) f) f id pol st h
    (firm_any s r) x st' e in
    (w.moved, w.fact, w.firm.rooted)

-- a pass begins so
pub steady_fresh : (n : ℕ) → Steady n (fresh n)
steady_fresh n =
    record {
      sound = record { ordered = record { is = λ i lt. absurd (not-suc-le-zero lt) }; counted = refl };
      keys = length-replicate (2 * n) 0;
      bits = length-replicate n 0;
      stored = λ k. omega (arith, cell_zero (2 * n) k);
    }
