-- What every step of a pass but a visit leaves: nodes are only added at the end, keys, bits, operations and the bail stay, and a sound state
-- stays sound. Assumes nothing.
use mathlib.Core.Path.{◌≡◌, refl, sym, ap, ◌∙◌, subst}
use mathlib.Core.Bool.{Bool, true, false, not, ◌||◌}
use Prim.Native.Nat.{ℕ, zero, suc, ◌+◌, ◌≤◌, ◌<◌}
use native.Mathlib.Omega.{arith}
use mathlib.Core.List.{List, [], ◌∷◌, ◌++◌, append-nil, append_assoc}
use lib.ListN.{length, length-append, get_or-append, get_or-eq_default}
use lib.Dec.{eqb, ltb}
use borrow.Author.Tests.{ltb-true, ltb-false, eqb-false}
use Rattle.cells.specs.Part.{if, cell}
use Rattle.rules.specs.Plain.{filter, any, all, contains, empty}
use Rattle.rules.specs.Ceilings.{most_members, most_names}
use Rattle.rules.specs.Table.{Field, Attr, field_keys}
use Rattle.rules.specs.Order.{sort}
use Rattle.rules.specs.Types.{Node, TyVar, Primitive, ListOf, Lambda, AttrSet, Union, Intersection, Named, Neg, Bottom, Top, State, Out, ok, no, Run, bind, ◌>>=◌}
use Rattle.rules.specs.Types.{give, refuse, ask, grown, cells_of, as_attr, node_at, is, store, limit, ty_var_kind, attr_set_kind, union_kind, bottom_kind}
use Rattle.rules.specs.Members.{members_at, remove_tautological_pairs, absorb_subsumed_union_members, negated_inners, without, flatten_composite}
use Rattle.rules.specs.Members.{remove_redundant_negations, has_type_contradiction, spared, takes_some, meet_types, merge_field, merge_fields, merge_dyn, merge_attrs}
use Rattle.rules.specs.Members.{optional_in_all, open_if_all, attr_of, attrs_of, merged, merge_attrset_intersection, sole, simplify_one, simplify_each}
use Rattle.rules.specs.Members.{simplify_union_neg_intersection, mark_sorted, remainders, factored, factor_unions, factor_shared_from_intersection, each, negate_node}
use Rattle.rules.specs.Members.{negate_by, negate_output_ty}
use Rattle.rules.specs.Canonicalizer.{Pass, variable, concrete_of, flattened, composite, settle, top_if_emptied, normalized, preserving, first_member, inter_normalized, inter_rest, union_normalized}
use Rattle.laws.specs.Sound.{Orderly, OrderlySet, Ordered, cells_in, Sound, Steady}
use Rattle.rules.specs.declared.Polarity.{Polarity}
use Rattle.rules.specs.declared.Polarity.TheVariants.{Positive, Negative}
use Rattle.laws.proofs.Storing.{Way, refused, old, new, way, by_place, node_before, node_last}
use Rattle.laws.proofs.Filtering.{under_most, filter_length}
use Rattle.laws.proofs.Ascending.{From, Rising, ascending_of, ascending_few, ascending_filter}
use Rattle.cells.specs.Placed.{Under}
use mathlib.Core.Option.{Option, none, some}

-- nodes are only added at the end, keys, bits, operations and the bail stay, sound stays sound
pub record Later (st st' : State) : Type 0 where
  pub more : List Node
  pub nodes : st'.nodes ≡ st.nodes ++ more
  pub keys : st'.keys ≡ st.keys
  pub bits : st'.bits ≡ st.bits
  pub ops : st'.ops ≡ st.ops
  pub bailed : st'.bailed ≡ st.bailed
  pub sound : Sound st → Sound st'

pub later_none : (st : State) → Later st st
later_none st = record { more = []; nodes = sym (append-nil st.nodes); keys = refl; bits = refl; ops = refl; bailed = refl; sound = λ s. s }

pub later_both : {a b c : State} → Later a b → Later b c → Later a c
later_both {a} g h =
    record {
      more = g.more ++ h.more;
      nodes = h.nodes ∙ ap (λ (l : List Node). l ++ h.more) g.nodes ∙ append_assoc a.nodes g.more h.more;
      keys = h.keys ∙ g.keys;
      bits = h.bits ∙ g.bits;
      ops = h.ops ∙ g.ops;
      bailed = h.bailed ∙ g.bailed;
      sound = λ s. h.sound (g.sound s);
    }

-- a number of a node stays one, and its node stays the same
pub later_length : {st st' : State} → Later st st' → length st.nodes ≤ length st'.nodes
later_length {st} l = omega (arith, ap length l.nodes, length-append st.nodes l.more)

later_below : {st st' : State} {x : ℕ} → Later st st' → x < length st.nodes → x < length st'.nodes
later_below l h = omega (arith, later_length l)

pub later_under : {st st' : State} (xs : List ℕ) → Later st st' → Under (length st.nodes) xs → Under (length st'.nodes) xs
later_under xs l u = under_most _ _ xs (later_length l) u

pub later_node : {st st' : State} {x : ℕ} → Later st st' → x < length st.nodes → node_at st'.nodes x ≡ node_at st.nodes x
later_node {st} {st'} {x} l h = ap (λ (ns : List Node). node_at ns x) l.nodes ∙ get_or-append st.nodes l.more Bottom x h

pub later_steady : {n : ℕ} {st st' : State} → Later st st' → Steady n st → Steady n st'
later_steady {st = st} {st' = st'} l s =
    record {
      sound = l.sound s.sound;
      keys = ap length l.keys ∙ s.keys;
      bits = ap length l.bits ∙ s.bits;
      stored = λ k. let a = s.stored k in let b = ap (λ (w : List ℕ). cell w k) l.keys in omega (arith, later_length l);
    }

-- one more node keeps a state sound if it is no set, or one in order
cells_more : (ns : List Node) (n : Node) → cells_in (ns ++ (n ∷ [])) ≡ cells_in ns + cells_of n
cells_more [] n = omega arith
cells_more (m ∷ ns) n = let e = cells_more ns n in omega arith

module _ (n : Node) (st : State) where
  sound_grown : OrderlySet (as_attr n) → Sound st → Sound (grown n st)
  sound_grown o s =
      record {
        ordered = record {
          is = by_place st.nodes n (λ (i : ℕ). OrderlySet (as_attr (node_at (st.nodes ++ (n ∷ [])) i)))
              (λ i lt. subst (λ (m : Node). OrderlySet (as_attr m)) (sym (node_before st.nodes n i lt)) (s.ordered.is i lt))
              (subst (λ (m : Node). OrderlySet (as_attr m)) (sym (node_last st.nodes n)) o);
        };
        counted = ap (λ (k : ℕ). k + cells_of n) s.counted ∙ sym (cells_more st.nodes n);
      }

  later_grown : (Sound st → OrderlySet (as_attr n)) → Later st (grown n st)
  later_grown o = record { more = n ∷ []; nodes = refl; keys = refl; bits = refl; ops = refl; bailed = refl; sound = λ s. sound_grown (o s) s }

  later_by : (x : ℕ) (st' : State) (o : Out ℕ) → (Sound st → OrderlySet (as_attr n)) → Way n st o → o ≡ ok x st' → Later st st'
  later_by x st' o u refused e = let z : ◌≡◌ {A = ℕ} 0 1 = cc in absurd (omega arith)
  later_by x st' o u (old {i} h) e = let b : st ≡ st' = cc in subst (Later st) b (later_none st)
  later_by x st' o u (new m) e = let b : grown n st ≡ st' = cc in subst (Later st) b (later_grown u)

-- a store of what is in order if the nodes before are
store_later : (n : Node) (st : State) (x : ℕ) (st' : State) → (Sound st → OrderlySet (as_attr n)) → store n st ≡ ok x st' → Later st st'
store_later n st x st' u e = later_by n st x st' (store n st) u (way n st) e

-- two steps, one after the other, that are not refused: neither is
pub record Parted {A B : Type 0} (m : Run A) (f : A → Run B) (st : State) (b : B) (st' : State) : Type 0 where
  pub value : A
  pub between : State
  pub first : m st ≡ ok value between
  pub second : f value between ≡ ok b st'

pub refused_not : {A : Type 0} {k : ℕ} {a : A} {st : State} {P : Type 0} → ◌≡◌ {A = Out A} (no k) (ok a st) → P
refused_not e = let z : ◌≡◌ {A = ℕ} 0 1 = cc in absurd (omega arith)

-- what is given, with the state that it is given in
pub gave : {A : Type 0} {a b : A} {st st' : State} (P : A → State → Type 0) → ◌≡◌ {A = Out A} (ok a st) (ok b st') → P a st → P b st'
gave {a = a} {b = b} {st = st} {st' = st'} P e p = let x : a ≡ b = cc in let z : st ≡ st' = cc in subst (P b) z (subst (λ c. P c st) x p)

module _ {A B : Type 0} (m : Run A) (f : A → Run B) (st : State) (b : B) (st' : State) where
  parted_by_lem : (o : Out A) → m st ≡ o → bind o f ≡ ok b st' → Parted m f st b st'
  parted_by_lem (ok a s) h e = record { value = a; between = s; first = h; second = e }
  parted_by_lem (no k) h e = refused_not e

  pub parted : bind (m st) f ≡ ok b st' → Parted m f st b st'
  parted e = parted_by_lem (m st) refl e

-- what is given after nothing more, and after more of a list
pub bind_none : (o : Out (List ℕ)) → o ≡ bind o (λ zs. give zs)
bind_none (ok zs st) = refl
bind_none (no k) = refl

pub bind_more : (ys l : List ℕ) (o : Out (List ℕ)) → bind (bind o (λ xs. give (l ++ xs))) (λ zs. give (ys ++ zs)) ≡ bind o (λ zs. give ((ys ++ l) ++ zs))
bind_more ys l (ok xs st) = ap (λ (l : List ℕ). ok l st) (sym (append_assoc ys l xs))
bind_more ys l (no k) = refl

-- whatever it gives, the state is later
abbrev pub Keeps : {A : Type 0} → Run A → Type 0
Keeps {A} m = (st : State) (a : A) (st' : State) → m st ≡ ok a st' → Later st st'

pub keeps_give : {A : Type 0} (a : A) → Keeps (give a)
keeps_give a st b st' e = let z : st ≡ st' = cc in subst (Later st) z (later_none st)

pub keeps_refuse : {A : Type 0} (k : ℕ) → Keeps {A = A} (refuse k)
keeps_refuse k st b st' e = refused_not e

pub keeps_ask : {A : Type 0} (f : List Node → A) → Keeps (ask f)
keeps_ask f st b st' e = let z : st ≡ st' = cc in subst (Later st) z (later_none st)

pub keeps_bind : {A B : Type 0} (m : Run A) (f : A → Run B) → Keeps m → ((a : A) → Keeps (f a)) → Keeps (m >>= f)
keeps_bind m f k l st b st' e =
    let c = parted m f st b st' e in
    later_both (k st c.value c.between c.first) (l c.value c.between b st' c.second)

pub keeps_if : {A : Type 0} (b : Bool) (x y : Unit {0} → Run A) → Keeps (x tt) → Keeps (y tt) → Keeps (if b x y)
keeps_if true x y k l = k
keeps_if false x y k l = l

keeps_limit : (xs : List ℕ) → Keeps (limit xs)
unfolding limit
keeps_limit xs = keeps_if (ltb most_members (length xs)) _ _ (keeps_refuse 7) (keeps_give xs)

pub keeps_store : (n : Node) → OrderlySet (as_attr n) → Keeps (store n)
keeps_store n o st x st' e = store_later n st x st' (λ s. o) e

-- a sole member or a stored node; the wraps of lists are no sets
abbrev pub Plain : (List ℕ → Node) → Type 0
Plain wrap = (xs : List ℕ) → OrderlySet (as_attr (wrap xs))

keeps_sole : (wrap : List ℕ → Node) → Plain wrap → (xs : List ℕ) → Keeps (sole wrap xs)
keeps_sole wrap o [] = keeps_give []
keeps_sole wrap o (x ∷ []) = keeps_give (x ∷ [])
keeps_sole wrap o (x ∷ y ∷ xs) = keeps_bind (store (wrap (x ∷ y ∷ xs))) _ (keeps_store (wrap (x ∷ y ∷ xs)) (o (x ∷ y ∷ xs))) (λ z. keeps_give (z ∷ []))

pub keeps_union : (xs : List ℕ) → Keeps (sole Union xs)
keeps_union xs = keeps_sole Union (λ ys. tt) xs

pub keeps_intersection : (xs : List ℕ) → Keeps (sole Intersection xs)
keeps_intersection xs = keeps_sole Intersection (λ ys. tt) xs

-- simplifying
keeps_simplify_one : (negs : List ℕ) (m : ℕ) → Keeps (simplify_one negs m)
keeps_simplify_one negs m st = keeps_if (is st.nodes union_kind m) _ _ (keeps_union (spared st.nodes negs m)) (keeps_give (m ∷ [])) st

keeps_simplify_each : (negs ms : List ℕ) → Keeps (simplify_each negs ms)
keeps_simplify_each negs [] = keeps_give []
keeps_simplify_each negs (m ∷ ms) =
    keeps_bind (simplify_one negs m) _ (keeps_simplify_one negs m)
    (λ x. keeps_bind (simplify_each negs ms) _ (keeps_simplify_each negs ms) (λ xs. keeps_give (x ++ xs)))

pub keeps_simplify : (functor : ℕ) (ms : List ℕ) → Keeps (simplify_union_neg_intersection functor ms)
unfolding simplify_union_neg_intersection
keeps_simplify functor ms st =
    let negs = negated_inners st.nodes ms in
    keeps_if (empty negs) _ _ (keeps_give ms)
    (keeps_if (not (any (is st.nodes union_kind) ms)) _ _ (keeps_ask (λ (ns : List Node). remove_redundant_negations functor ns ms))
    (keeps_bind (simplify_each negs ms) _ (keeps_simplify_each negs ms)
    (λ xs. keeps_if (any (takes_some st.nodes negs) ms) _ _ (keeps_ask _) (keeps_give xs)))) st

-- factoring
keeps_mark : (xs : List ℕ) → Keeps (mark_sorted xs)
keeps_mark xs st b st' e =
    gave (λ _ s. Later st s) e
    (record { more = []; nodes = sym (append-nil st.nodes); keys = refl; bits = refl; ops = refl; bailed = refl; sound = λ s. record { ordered = s.ordered; counted = s.counted } })

keeps_remainders : (shared us : List ℕ) → Keeps (remainders shared us)
keeps_remainders shared [] st = keeps_give [] st
keeps_remainders shared (u ∷ us) st =
    keeps_bind (sole Union (without shared (members_at st.nodes u))) _ (keeps_union (without shared (members_at st.nodes u)))
    (λ x. keeps_bind (remainders shared us) _ (keeps_remainders shared us) (λ xs. keeps_give (x ++ xs))) st

keeps_factored : (others us shared : List ℕ) → Keeps (factored others us shared)
keeps_factored others us [] = keeps_give (others ++ us)
keeps_factored others us (s ∷ ss) =
    keeps_bind (remainders (s ∷ ss) us) _ (keeps_remainders (s ∷ ss) us)
    (λ rests st. keeps_bind (mark_sorted (sort st.nodes (s ∷ ss))) _ (keeps_mark (sort st.nodes (s ∷ ss)))
    (λ _. keeps_bind (sole Intersection (rests ++ others)) _ (keeps_intersection (rests ++ others))
    (λ inner. keeps_union (sort st.nodes (s ∷ ss) ++ inner))) st)

keeps_factor_unions : (others us : List ℕ) → Keeps (factor_unions others us)
keeps_factor_unions others [] st = keeps_give others st
keeps_factor_unions others (u ∷ []) st =
    keeps_bind (sole Union (members_at st.nodes u)) _ (keeps_union (members_at st.nodes u)) (λ x. keeps_give (others ++ x)) st
keeps_factor_unions others (u ∷ w ∷ us) st =
    keeps_factored others (u ∷ w ∷ us) (filter (λ (m : ℕ). all (λ (z : ℕ). contains (members_at st.nodes z) m) (w ∷ us)) (members_at st.nodes u)) st

pub keeps_factor : (ms : List ℕ) → Keeps (factor_shared_from_intersection ms)
unfolding factor_shared_from_intersection
keeps_factor ms st = keeps_factor_unions (filter (λ (m : ℕ). not (is st.nodes union_kind m)) ms) (filter (is st.nodes union_kind) ms) st

-- one after another
pub keeps_each : (f : ℕ → Run ℕ) → ((m : ℕ) → Keeps (f m)) → (ms : List ℕ) → Keeps (each f ms)
keeps_each f k [] = keeps_give []
keeps_each f k (m ∷ ms) = keeps_bind (f m) _ (k m) (λ x. keeps_bind (each f ms) _ (keeps_each f k ms) (λ xs. keeps_give (x ∷ xs)))

-- negation
keeps_negate_node : (f : ℕ → Run ℕ) → ((m : ℕ) → Keeps (f m)) → (x : ℕ) (n : Node) → Keeps (negate_node f x n)
keeps_negate_node f k x (TyVar a) = keeps_store (Neg x) tt
keeps_negate_node f k x (Primitive c) = keeps_store (Neg x) tt
keeps_negate_node f k x (ListOf a) = keeps_store (Neg x) tt
keeps_negate_node f k x (Lambda a b) = keeps_store (Neg x) tt
keeps_negate_node f k x (AttrSet a) = keeps_store (Neg x) tt
keeps_negate_node f k x (Union ms) = keeps_bind (each f ms) _ (keeps_each f k ms) (λ xs. keeps_store (Intersection xs) tt)
keeps_negate_node f k x (Intersection ms) = keeps_bind (each f ms) _ (keeps_each f k ms) (λ xs. keeps_store (Union xs) tt)
keeps_negate_node f k x (Named n a) = keeps_store (Neg x) tt
keeps_negate_node f k x (Neg a) = keeps_give a
keeps_negate_node f k x Bottom = keeps_store (Neg x) tt
keeps_negate_node f k x Top = keeps_store (Neg x) tt

pub keeps_negate_by : (f x : ℕ) → Keeps (negate_by f x)
keeps_negate_by zero x st = keeps_give x st
keeps_negate_by (suc f) x st = keeps_negate_node (negate_by f) (keeps_negate_by f) x (node_at st.nodes x) st

pub keeps_negate : (x : ℕ) → Keeps (negate_output_ty x)
unfolding negate_output_ty
keeps_negate x = keeps_negate_by (suc x) x

-- merging a field into fields
keeps_meet : (a b : ℕ) → Keeps (meet_types a b)
keeps_meet a b st = keeps_if (is st.nodes ty_var_kind a || eqb a b) _ _ (keeps_give b) (keeps_store (Intersection (a ∷ b ∷ [])) tt) st

record Fielded (f : Field) (gs : List Field) (st : State) (hs : List Field) (st' : State) : Type 0 where
  later : Later st st'
  rising : Rising (field_keys gs) → Rising (field_keys hs)
  from : (a : ℕ) → a ≤ f.key → From a (field_keys gs) → From a (field_keys hs)
  under : (k : ℕ) → f.key < k → Under k (field_keys gs) → Under k (field_keys hs)

module _ (f g : Field) (gs : List Field) (rec : (st : State) (hs : List Field) (st' : State) → merge_field f gs st ≡ ok hs st' → Fielded f gs st hs st') where
  field_first : (st : State) → f.key < g.key → Fielded f (g ∷ gs) st (f ∷ g ∷ gs) st
  field_first st lt =
      record { later = later_none st; rising = λ r. (lt, r); from = λ a h k. h; under = λ k h u. (h, u) }

  field_met : (st : State) (hs : List Field) (st' : State)
      → bind (meet_types g.type f.type st) (λ (x : ℕ). give (record { key = g.key; type = x } ∷ gs)) ≡ ok hs st' → Fielded f (g ∷ gs) st hs st'
  field_met st hs st' e =
      let c = parted (meet_types g.type f.type) _ st hs st' e in
      gave (Fielded f (g ∷ gs) st) c.second
      (record { later = keeps_meet g.type f.type st c.value c.between c.first; rising = λ r. r; from = λ a h k. k; under = λ k h u. u })

  field_behind : (st : State) (hs : List Field) (st' : State) → g.key < f.key
      → bind (merge_field f gs st) (λ (hs : List Field). give (g ∷ hs)) ≡ ok hs st' → Fielded f (g ∷ gs) st hs st'
  field_behind st hs st' lt e =
      let c = parted (merge_field f gs) _ st hs st' e in
      let d = rec st c.value c.between c.first in
      gave (Fielded f (g ∷ gs) st) c.second
      (record { later = d.later; rising = λ r. (d.from (suc g.key) lt r.0, d.rising r.1); from = λ a h k. k; under = λ k h u. (u.0, d.under k h u.1) })

  field_turn : (b c : Bool) → ltb f.key g.key ≡ b → eqb f.key g.key ≡ c → (st : State) (hs : List Field) (st' : State)
      → if b (λ _. give (f ∷ g ∷ gs))
      (λ _. if c (λ _. meet_types g.type f.type >>= (λ (x : ℕ). give (record { key = g.key; type = x } ∷ gs)))
      (λ _. merge_field f gs >>= (λ (hs : List Field). give (g ∷ hs)))) st ≡ ok hs st'
      → Fielded f (g ∷ gs) st hs st'
  field_turn true c p q st hs st' e = gave (Fielded f (g ∷ gs) st) e (field_first st (ltb-true f.key g.key p))
  field_turn false true p q st hs st' e = field_met st hs st' e
  field_turn false false p q st hs st' e =
      let n = eqb-false f.key g.key q in let l = ltb-false f.key g.key p in field_behind st hs st' (omega arith) e

merged_field : (f : Field) (gs : List Field) (st : State) (hs : List Field) (st' : State) → merge_field f gs st ≡ ok hs st' → Fielded f gs st hs st'
merged_field f [] st hs st' e =
    gave (Fielded f [] st) e (record { later = later_none st; rising = λ r. (tt, tt); from = λ a h k. h; under = λ k h u. (h, tt) })
merged_field f (g ∷ gs) st hs st' e = field_turn f g gs (merged_field f gs) (ltb f.key g.key) (eqb f.key g.key) refl refl st hs st' e

-- keys as a set has them
record InOrder (fs : List Field) : Type 0 where
  rising : Rising (field_keys fs)
  named : Under most_names (field_keys fs)

record Fields (got fs : List Field) (st : State) (hs : List Field) (st' : State) : Type 0 where
  later : Later st st'
  good : InOrder got → Under most_names (field_keys fs) → InOrder hs

merged_fields : (got fs : List Field) (st : State) (hs : List Field) (st' : State) → merge_fields got fs st ≡ ok hs st' → Fields got fs st hs st'
merged_fields got [] st hs st' e = gave (Fields got [] st) e (record { later = later_none st; good = λ g u. g })
merged_fields got (f ∷ fs) st hs st' e =
    let c = parted (merge_field f got) _ st hs st' e in
    let d = merged_field f got st c.value c.between c.first in
    let r = merged_fields c.value fs c.between hs st' c.second in
    record {
      later = later_both d.later r.later;
      good = λ g u. r.good (record { rising = d.rising g.rising; named = d.under most_names u.0 g.named }) u.1;
    }

keeps_dyn : (d e : Option ℕ) → Keeps (merge_dyn d e)
keeps_dyn none e = keeps_give e
keeps_dyn (some a) none = keeps_give (some a)
keeps_dyn (some a) (some b) =
    keeps_if (eqb a b) _ _ (keeps_give (some a)) (keeps_bind (store (Intersection (a ∷ b ∷ []))) _ (keeps_store (Intersection (a ∷ b ∷ [])) tt) (λ x. keeps_give (some x)))

-- the keys of these sets are names
abbrev NamedAll : List Attr → Type 0
NamedAll [] = Unit {0}
NamedAll (a ∷ sets) = Under most_names (field_keys a.fields) × NamedAll sets

-- a merge of sets up to its last step
record Merging (fs : List Field) (sets : List Attr) (last : List Field → Option ℕ → Run ℕ) (st : State) (x : ℕ) (st' : State) : Type 0 where
  got : List Field
  dyn : Option ℕ
  between : State
  later : Later st between
  end : last got dyn between ≡ ok x st'
  good : InOrder fs → NamedAll sets → InOrder got

merging : (fs : List Field) (d : Option ℕ) (sets : List Attr) (last : List Field → Option ℕ → Run ℕ) (st : State) (x : ℕ) (st' : State)
    → merge_attrs fs d sets last st ≡ ok x st' → Merging fs sets last st x st'
merging fs d [] last st x st' e = record { got = fs; dyn = d; between = st; later = later_none st; end = e; good = λ g u. g }
merging fs d (a ∷ sets) last st x st' e =
    let c = parted (merge_dyn d a.dyn) _ st x st' e in
    let b = parted (merge_fields fs a.fields) _ c.between x st' c.second in
    let f = merged_fields fs a.fields c.between b.value b.between b.first in
    let r = merging b.value c.value sets last b.between x st' b.second in
    record {
      got = r.got;
      dyn = r.dyn;
      between = r.between;
      later = later_both (keeps_dyn d a.dyn st c.value c.between c.first) (later_both f.later r.later);
      end = r.end;
      good = λ g u. r.good (f.good g u.0) u.1;
    }

-- the sets of nodes in order
ordered_before : {st st' : State} → Later st st' → Ordered st'.nodes → Ordered st.nodes
ordered_before l o = record { is = λ i lt. subst (λ (n : Node). OrderlySet (as_attr n)) (later_node l lt) (o.is i (later_below l lt)) }

ordered_turn : (ns : List Node) (m : ℕ) (b : Bool) → ltb m (length ns) ≡ b → Ordered ns → OrderlySet (as_attr (node_at ns m))
ordered_turn ns m true e o = o.is m (ltb-true m (length ns) e)
ordered_turn ns m false e o =
    subst (λ (n : Node). OrderlySet (as_attr n)) (sym (get_or-eq_default ns Bottom (ltb-false m (length ns) e))) tt

named_more : (q : Option Attr) (sets : List Attr) → OrderlySet q → NamedAll sets → NamedAll (attr_of q ++ sets)
named_more none sets o u = u
named_more (some a) sets o u = (o.named, u)

named_all : (ns : List Node) (ms : List ℕ) → Ordered ns → NamedAll (attrs_of ns ms)
named_all ns [] o = tt
named_all ns (m ∷ ms) o = named_more (as_attr (node_at ns m)) (attrs_of ns ms) (ordered_turn ns m (ltb m (length ns)) refl o) (named_all ns ms o)

merged_later : (sets : List Attr) (st : State) (x : ℕ) (st' : State) → (Ordered st.nodes → NamedAll sets) → merged sets st ≡ ok x st' → Later st st'
merged_later sets st x st' n e =
    let m = merging [] none sets _ st x st' e in
    later_both m.later (store_later _ m.between x st' (λ s. orderly m.got (m.good (record { rising = tt; named = tt }) (n (ordered_before m.later s.ordered)))) m.end) where
      orderly : (fs : List Field) {d : Option ℕ} → InOrder fs → Orderly (record { fields = fs; dyn = d; is_open = open_if_all sets; optional = filter (optional_in_all sets) (field_keys fs) })
      orderly fs g =
          let a = ascending_of (field_keys fs) g.rising in
          let l = ascending_few most_names (field_keys fs) a g.named in
          record {
            ascend = a;
            named = g.named;
            few = omega (arith, filter_length (optional_in_all sets) (field_keys fs));
            optional = ascending_filter (optional_in_all sets) (field_keys fs) a;
          }

merge_turn : (ms others : List ℕ) (sets : List Attr) (b : Bool) (st : State) (xs : List ℕ) (st' : State) → (Ordered st.nodes → NamedAll sets)
    → if b (λ _. give ms) (λ _. merged sets >>= (λ (x : ℕ). give (others ++ (x ∷ [])))) st ≡ ok xs st' → Later st st'
merge_turn ms others sets true st xs st' n e = keeps_give ms st xs st' e
merge_turn ms others sets false st xs st' n e =
    let c = parted (merged sets) _ st xs st' e in
    gave (λ _ s. Later st s) c.second (merged_later sets st c.value c.between n c.first)

pub keeps_merge : (ms : List ℕ) → Keeps (merge_attrset_intersection ms)
unfolding merge_attrset_intersection
keeps_merge ms st xs st' e = merge_turn ms (filter (λ (m : ℕ). not (is st.nodes attr_set_kind m)) ms) (attrs_of st.nodes ms) (empty (attrs_of st.nodes ms)) st xs st' (named_all st.nodes ms) e

-- steps of the rules
pub keeps_variable : (p : Pass) (id : ℕ) → Keeps (variable p id)
keeps_variable p id = keeps_store (TyVar (p.rep id)) tt

pub keeps_concrete : (p : Pass) (ms : List ℕ) → Keeps (concrete_of p ms)
keeps_concrete p ms = keeps_ask _

pub keeps_flattened : (k : ℕ) (xs : List ℕ) → Keeps (flattened k xs)
keeps_flattened k xs = keeps_bind (limit xs) _ (keeps_limit xs) (λ ms st. keeps_limit (flatten_composite k st.nodes ms) st)

pub keeps_settle : (cancelled : Bool) (rest : Run ℕ) (wrap : List ℕ → Node) (xs : List ℕ) → Plain wrap → Keeps rest → Keeps (settle cancelled rest wrap xs)
keeps_settle cancelled rest wrap [] o k = keeps_if cancelled _ _ (keeps_store Top tt) k
keeps_settle cancelled rest wrap (x ∷ []) o k = keeps_give x
keeps_settle cancelled rest wrap (x ∷ y ∷ xs) o k = keeps_store (wrap (x ∷ y ∷ xs)) (o (x ∷ y ∷ xs))

pub keeps_normalized : (p : Pass) (rest : Run ℕ) (pol : Polarity) (ms : List ℕ) → Keeps rest → Keeps (normalized p rest pol ms)
keeps_normalized p rest Positive ms k st = keeps_settle (top_if_emptied Positive ms) rest Union (absorb_subsumed_union_members st.nodes (remove_tautological_pairs st.nodes ms)) (λ ys. tt) k st
keeps_normalized p rest Negative ms k st =
    keeps_bind (merge_attrset_intersection ms) _ (keeps_merge ms)
    (λ one st. keeps_if (has_type_contradiction p.functor st.nodes (remove_redundant_negations p.functor st.nodes one)) _ _ (keeps_store Bottom tt)
    (keeps_bind (factor_shared_from_intersection (remove_redundant_negations p.functor st.nodes one)) _ (keeps_factor (remove_redundant_negations p.functor st.nodes one))
    (λ ys. keeps_settle (top_if_emptied Negative ms) rest Intersection ys (λ zs. tt) k)) st) st

composite_plain : (pol : Polarity) → Plain (composite pol)
composite_plain Positive xs = tt
composite_plain Negative xs = tt

pub keeps_preserving : (p : Pass) (id : ℕ) (pol : Polarity) (x : ℕ) → Keeps (preserving p id pol x)
keeps_preserving p id pol x st =
    keeps_bind (variable p id) _ (keeps_variable p id)
    (λ y. keeps_if (is st.nodes ty_var_kind x || is st.nodes bottom_kind x) _ _ (keeps_give y) (keeps_store (composite pol (y ∷ x ∷ [])) (composite_plain pol (y ∷ x ∷ [])))) st

pub keeps_first_of : (ys : List ℕ) → Keeps (first_member ys)
keeps_first_of [] = keeps_store Bottom tt
keeps_first_of (y ∷ ys) = keeps_give y

pub keeps_inter_normalized : (p : Pass) (pol : Polarity) (ms : List ℕ) → Keeps (inter_normalized p pol ms)
keeps_inter_normalized p Positive ms = keeps_ask _
keeps_inter_normalized p Negative ms = keeps_bind (merge_attrset_intersection ms) _ (keeps_merge ms) (λ one. keeps_ask _)

pub keeps_inter_rest : (p : Pass) (pol : Polarity) (ys ms : List ℕ) → Keeps (inter_rest p pol ys ms)
unfolding inter_rest
keeps_inter_rest p pol ys ms =
    keeps_bind (inter_normalized p pol ms) _ (keeps_inter_normalized p pol ms)
    (λ xs. keeps_bind (simplify_union_neg_intersection p.functor xs) _ (keeps_simplify p.functor xs)
    (λ simple. keeps_bind (factor_shared_from_intersection simple) _ (keeps_factor simple)
    (λ zs. keeps_settle (top_if_emptied pol ms) (first_member ys) Intersection zs (λ ws. tt) (keeps_first_of ys))))

pub keeps_union_normalized : (pol : Polarity) (ms : List ℕ) → Keeps (union_normalized pol ms)
keeps_union_normalized Positive ms = keeps_ask _
keeps_union_normalized Negative ms = keeps_ask _
