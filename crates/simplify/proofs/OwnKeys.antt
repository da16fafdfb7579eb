-- Keys counted, and what a set with a key of its own takes up: nothing. Assumes nothing.
use mathlib.Core.Path.{◌≡◌, refl, sym, ap, ap₂, ◌∙◌, subst}
use mathlib.Core.Bool.{Bool, true, false, not, ◌||◌}
use mathlib.Core.Logic.{◌⊎◌, inl, inr, ⊎_elim}
use Prim.Native.Nat.{ℕ, suc, ◌+◌, ◌-◌, ◌≤◌, ◌<◌}
use native.Mathlib.Omega.{arith}
use native.Mathlib.Nat.{eq-zero-or-pos}
use mathlib.Core.List.{List, [], ◌∷◌}
use mathlib.Core.Option.{Option, none, some}
use lib.ListN.{length, get_or, set, length-map, length-replicate, get_or-replicate, replicate}
use lib.Seq.{get_or-set_same, get_or-set_other}
use lib.Dec.{eqb}
use borrow.Author.Count.{below_more}
use borrow.Author.Tests.{eqb-true, eqb-false, not-true, not-false}
use Rattle.std.specs.List.{range_with_len, HoldsAt}
use Rattle.std.specs.Bool.{MatchBool}
use Rattle.std.proofs.lemmas.Bool.{MatchBool-at_true}
use Rattle.std.proofs.lemmas.List.FromFn.{length-range_with_len, get_or-range_with_len}
use Rattle.cells.specs.Part.{cell, if}
use Rattle.cells.specs.Sum.{Sum}
use Rattle.cells.proofs.Choices.{true_false, not_so, if_false}
use Rattle.rules.specs.Ceilings.{most_names, most_members}
use Rattle.rules.specs.Plain.{all, both, contains, position}
use Rattle.rules.specs.Table.{Field, Attr, field_keys}
use Rattle.rules.specs.Types.{Node, kind_of, node_at, as_attr}
use Rattle.rules.specs.Members.{no_dyn_or_same, subsumes_node}
use Rattle.laws.specs.Sound.{Orderly}
use Rattle.laws.proofs.Rows.{node_of}
use Rattle.laws.proofs.Containing.{contains_at}
use Rattle.laws.proofs.Positions.{position_below, position_is}
use Rattle.laws.proofs.Filtering.{under_at}
use Rattle.lang_ty.specs.declared.arena.Pass.{Pass}
use Rattle.lang_ty.specs.Nodes.{Arena, Is}
use Rattle.lang_ty.specs.Shapes.{SetPlace}
use Rattle.lang_ty.specs.Sets.{SetAt, Fields, Key, Optionals, covers}
use Rattle.lang_ty.proofs.Shapes.{set_of, set_at_lem, set_orderly}
use Rattle.members.specs.Lists.{Taken, first_of}
use Rattle.members.proofs.Gathered.{few_at, few_below}
use Rattle.simplify.specs.OwnKeys.{keys_of, HasKey, Raised, CountsKeys, CountsMember, Tallied, CountsMembers, Owns, OwnKey, MarksIfOwn, Idle, MarksOwn}
use Rattle.simplify.proofs.Absorbed.{no_attr}

-- a count with one more, which stops at the greatest number, is 1 or 2 at least where the true sum is
sum_least : {c r : ℕ} → Sum c 1 r → (b : ℕ) → b ≤ 2 → b ≤ c + 1 → b ≤ r
sum_least {c} s b few le =
    ⊎_elim (λ e. let f = s.is (omega arith) in omega arith) (λ e. let f = s.full (omega arith) in omega arith) (eq-zero-or-pos (c + 1 - 4294967295))

-- the counts with one more of the key y
module _ (counts : List ℕ) {y r : ℕ} (lt : y < length counts) (s : Sum (cell counts y) 1 r) where
  one_stays : (k b : ℕ) → b ≤ 2 → b ≤ cell counts k → b ≤ cell (set counts y r) k
  one_stays k b few le =
      turn (eqb k y) refl where
        turn : (v : Bool) → eqb k y ≡ v → b ≤ cell (set counts y r) k
        turn true e =
            let f = eqb-true k y e in
            let g : cell counts k ≡ cell counts y = ap (cell counts) f in
            let z : cell (set counts y r) k ≡ r = ap (cell (set counts y r)) f ∙ get_or-set_same counts y r 0 lt in
            omega (arith, sum_least s b few (omega arith))
        turn false e = let z = get_or-set_other counts y k r 0 (eqb-false k y e) in omega arith

  one_rises : (b : ℕ) → b ≤ 1 → b ≤ cell counts y → suc b ≤ cell (set counts y r) y
  one_rises b few le = let z = get_or-set_same counts y r 0 lt in omega (arith, sum_least s (suc b) (omega arith) (omega arith))

-- `count_keys` at field i
pub record Midcount (ks counts₀ counts : List ℕ) (i : ℕ) : Type 0 where
  pub stays : (k b : ℕ) → b ≤ 2 → b ≤ cell counts₀ k → b ≤ cell counts k
  pub rises : (j : ℕ) → j < i → (b : ℕ) → b ≤ 1 → b ≤ cell counts₀ (get_or ks j 0) → suc b ≤ cell counts (get_or ks j 0)

pub record Counting (w : List ℕ) (a : ℕ) (counts₀ counts : List ℕ) (i : ℕ) : Type 0 where
  pub is : {t : Attr} → SetAt w a t → Orderly t → most_names ≤ length counts₀ → Midcount (field_keys t.fields) counts₀ counts i

midcount_more : {ks counts₀ counts : List ℕ} {i r : ℕ} → Midcount ks counts₀ counts i → get_or ks i 0 < length counts → Sum (cell counts (get_or ks i 0)) 1 r
    → Midcount ks counts₀ (set counts (get_or ks i 0) r) (i + 1)
midcount_more {ks} {counts₀} {counts} {i} {r} m lt s =
    let y = get_or ks i 0 in
    record {
      stays = λ k b few le. one_stays counts lt s k b few (m.stays k b few le);
      rises = below_more _ _ (λ j l b few le. one_stays counts lt s (get_or ks j 0) (suc b) (omega arith) (m.rises j l b few le))
          (λ b few le. one_rises counts lt s b few (m.stays y b (omega arith) le));
    }

module _ {w : List ℕ} {a : ℕ} {counts₀ : List ℕ} where
  pub counting_start : Counting w a counts₀ counts₀ 0
  counting_start = record { is = λ s o room. record { stays = λ k b few le. le; rises = λ j lt. absurd (omega arith) } }

  module _ {n : ℕ} (fields : Fields w a n) where
    pub counting_more : {counts counts' : List ℕ} {i k c r : ℕ} → Counting w a counts₀ counts i → length counts ≡ length counts₀ → i < n → Key w a i k → c ≡ cell counts k
        → Sum c 1 r → counts' ≡ set counts k r → Counting w a counts₀ counts' (i + 1)
    counting_more {counts} {counts'} {i} {k} {c} {r} m same lt key e s f =
        record {
          is = λ {t} h o room.
              let ks = field_keys t.fields in
              let mid = m.is h o room in
              let size = fields.is h in
              let each = length-map t.fields (λ (f : Field). f.key) in
              let g = key.is h (omega arith) in
              subst (λ (l : List ℕ). Midcount ks counts₀ l (i + 1)) (sym (f ∙ ap (λ (y : ℕ). set counts y r) g))
              (midcount_more mid (omega (arith, under_at most_names ks i o.named (omega arith))) (subst (λ (v : ℕ). Sum v 1 r) (e ∙ ap (cell counts) g) s));
        }

    pub counting_done : {counts : List ℕ} {i : ℕ} → Counting w a counts₀ counts i → n ≤ i → CountsKeys w a counts₀ counts
    counting_done {counts} {i} m le =
        record {
          is = λ {t} h o room.
              let ks = field_keys t.fields in
              let mid = m.is h o room in
              let size = fields.is h in
              let each = length-map t.fields (λ (f : Field). f.key) in
              record {
                stays = mid.stays;
                rises = λ k b e. subst (λ (y : ℕ). b ≤ 1 → b ≤ cell counts₀ y → suc b ≤ cell counts y) (position_is k ks e)
                    (mid.rises (position (eqb k) ks) (omega (arith, position_below k ks e)) b);
              };
        }

-- `count_member`: node x is no set, or its keys are counted
raised_none : {counts : List ℕ} → Raised [] counts counts
raised_none = record { stays = λ k b few le. le; rises = λ k b e. true_false (sym e) }

module _ {w : List ℕ} {x : ℕ} {b : Bool} (k : Is w 4 x b) where
  pub counts_none : {counts : List ℕ} → not b ≡ true → CountsMember w x counts counts
  counts_none {counts} e =
      record {
        is = λ {q} {ns} h lt room.
            subst (λ (a : Option Attr). Raised (keys_of a) counts counts)
            (sym (no_attr (node_at ns x) (eqb-false (kind_of (node_at ns x)) 4 (sym (k.is h lt) ∙ not-true b e))))
            raised_none;
      }

  pub counts_set : {counts counts' : List ℕ} {a : ℕ} → not b ≡ false → SetPlace w x a → CountsKeys w a counts counts' → CountsMember w x counts counts'
  counts_set {counts} {counts'} {a} e p g =
      record {
        is = λ {q} {ns} h lt room.
            let is4 = eqb-true (kind_of (node_at ns x)) 4 (sym (k.is h lt) ∙ not-false b e) in
            subst (λ (n : Node). Raised (keys_of (as_attr n)) counts counts') (node_of (node_at ns x) 4 is4)
            (g.is (set_at_lem h lt is4 p) (set_orderly h lt is4) room);
      }

-- `count_members` at member i
pub record Tallying (w ms : List ℕ) (n : ℕ) (counts₀ counts : List ℕ) (i : ℕ) : Type 0 where
  pub is : {q : Pass} {ns : List Node} {xs : List ℕ} → Arena w q ns → Taken (first_of n ms) xs (length ns) → most_names ≤ length counts₀ → Tallied ns xs i counts

tallied_more : {ns : List Node} {xs counts counts' : List ℕ} {i : ℕ} → Tallied ns xs i counts → Raised (keys_of (as_attr (node_at ns (get_or xs i 0)))) counts counts'
    → Tallied ns xs (i + 1) counts'
tallied_more {ns} {xs} {counts} {counts'} {i} t r =
    record {
      one = below_more _ _ (λ j lt k has. r.stays k 1 (omega arith) (t.one j lt k has)) (λ k has. r.rises k 0 has (omega arith) (omega arith));
      two = below_more _ _ (λ j lt l less k has had. r.stays k 2 (omega arith) (t.two j lt l less k has had))
          (λ l less k has had. r.rises k 1 had (omega arith) (t.one l less k has));
    }

module _ {w ms : List ℕ} {n : ℕ} {counts₀ : List ℕ} where
  pub tallying_start : Tallying w ms n counts₀ counts₀ 0
  tallying_start = record { is = λ h t room. record { one = λ i lt. absurd (omega arith); two = λ j lt. absurd (omega arith) } }

  pub tallying_more : {counts counts' : List ℕ} {i x : ℕ} → Tallying w ms n counts₀ counts i → length counts ≡ length counts₀ → i < n → x ≡ cell ms i → CountsMember w x counts counts'
      → Tallying w ms n counts₀ counts' (i + 1)
  tallying_more {counts} {counts'} {i} {x} c same lt e g =
      record {
        is = λ {q} {ns} {xs} h t room.
            tallied_more (c.is h t room)
            (subst (λ (y : ℕ). Raised (keys_of (as_attr (node_at ns y))) counts counts') (few_at t.list e lt) (g.is h (few_below t e lt) (omega arith)));
      }

  pub tallying_done : {counts : List ℕ} {i : ℕ} → Tallying w ms n counts₀ counts i → n ≤ i → CountsMembers w ms n counts₀ counts
  tallying_done c le =
      record {
        is = λ h t room.
            let mid = c.is h t room in
            record { one = λ j lt. mid.one j (omega arith); two = λ j lt. mid.two j (omega arith) };
      }

-- `has_own_key`: the answer says something only where it is yes
some_same : {t u : Attr} → some t ≡ some u → t ≡ u
some_same e = cc

pub own_yes : {w counts : List ℕ} {x a o n i k v : ℕ} {b : Bool} → Is w 4 x b → not b ≡ false → SetPlace w x a → Optionals w a o → o ≡ 0 → Fields w a n → i < n → Key w a i k
    → v ≡ cell counts k → v ≡ 1 → OwnKey w counts x true
own_yes {counts = counts} {x = x} {i = i} {k = k} {b = b} l c p s e f lt key g one =
    record {
      is = λ {q} {ns} h lx so.
          let is4 = eqb-true (kind_of (node_at ns x)) 4 (sym (l.is h lx) ∙ not-false b c) in
          let t = set_of ns x in
          let at = set_at_lem h lx is4 p in
          let size = f.is at in
          let each = length-map t.fields (λ (f : Field). f.key) in
          subst (λ (n : Node). Owns counts (as_attr n)) (node_of (node_at ns x) 4 is4)
          (record {
            key = k;
            had = ap (contains (field_keys t.fields)) (key.is at (omega arith)) ∙ contains_at (field_keys t.fields) i (omega arith);
            required = λ u z. ap (λ (v : Attr). length v.optional) (sym (some_same z)) ∙ sym (s.is at) ∙ e;
            once = sym g ∙ one;
          });
    }

-- field i of the set at a has a key that was counted once
pub record Once (w counts : List ℕ) (a i : ℕ) : Type 0 where
  pub key : ℕ
  pub is : Key w a i key
  pub once : cell counts key ≡ 1

pub once_at : {w counts : List ℕ} {a i k v : ℕ} → Key w a i k → v ≡ cell counts k → v ≡ 1 → Once w counts a i
once_at {k = k} key e one = record { key = k; is = key; once = sym e ∙ one }

pub own_any : {w counts : List ℕ} {x a o n : ℕ} {b r : Bool} (No : Type 0) → Is w 4 x b → not b ≡ false → SetPlace w x a → Optionals w a o → o ≡ 0 → Fields w a n
    → MatchBool r ((k : ℕ) × (k < length (range_with_len 0 n)) × HoldsAt (Once w counts a) (range_with_len 0 n) k) No → OwnKey w counts x r
own_any {w} {counts} {a = a} {n = n} No l c p s e f found =
    record {
      is = λ {q} {ns} h lx yes.
          let some = MatchBool-at_true _ _ yes found in
          let lt : some.0 < n = omega (arith, some.1, length-range_with_len 0 n) in
          let here = get_or-range_with_len 0 n some.0 0 lt in
          let once = subst (Once w counts a) (omega (arith, here)) (some.2 0) in
          (own_yes l c p s e f lt once.is refl once.once).is h lx refl;
    }

-- a set does not take up another that lacks a key which it requires
all_turn : (p : ℕ → Bool) (x : ℕ) (xs : List ℕ) (k : ℕ) (b : Bool) → eqb k x ≡ b → if b (λ _. true) (λ _. contains xs k) ≡ true → p k ≡ false
    → (contains xs k ≡ true → all p xs ≡ false) → all p (x ∷ xs) ≡ false
all_turn p x xs k true f h e g = ap (λ (b : Bool). if b (λ _. all p xs) (λ _. false)) (ap p (sym (eqb-true k x f)) ∙ e)
all_turn p x xs k false f h e g = ap (λ (b : Bool). if (p x) (λ _. b) (λ _. false)) (g h) ∙ if_false (p x)

all_false : (p : ℕ → Bool) (xs : List ℕ) (k : ℕ) → contains xs k ≡ true → p k ≡ false → all p xs ≡ false
all_false p [] k h e = true_false (sym h)
all_false p (x ∷ xs) k h e = all_turn p x xs k (eqb k x) refl h e (λ g. all_false p xs k g e)

contains_none : (xs : List ℕ) (k : ℕ) → length xs ≡ 0 → contains xs k ≡ false
contains_none [] k e = refl
contains_none (x ∷ xs) k e = absurd (omega arith)

lacks_own : {counts : List ℕ} (t : Attr) (a : Option Attr) (o : Owns counts (some t)) → (contains (keys_of a) o.key ≡ true → ⊥) → subsumes_node t a ≡ false
lacks_own t none o h = refl
lacks_own t (some u) o h =
    ap (λ (b : Bool). both (both (eqb t.is_open 1) (λ _. eqb u.is_open 1)) (λ _. both (no_dyn_or_same t.dyn u.dyn) (λ _. b)))
    (all_false (covers t u) (field_keys t.fields) o.key o.had
    (ap₂ ◌||◌ (contains_none t.optional o.key (o.required t refl)) (sym (not_so (contains (field_keys u.fields) o.key) h))))
    ∙ ap (λ (b : Bool). both (both (eqb t.is_open 1) (λ _. eqb u.is_open 1)) (λ _. b)) (if_false (no_dyn_or_same t.dyn u.dyn))
    ∙ if_false (both (eqb t.is_open 1) (λ _. eqb u.is_open 1))

-- a key that was counted once is one of no two members
alone : {ns : List Node} {xs counts : List ℕ} {n : ℕ} → Tallied ns xs n counts → (i j k : ℕ) → i < n → j < n → (i ≡ j → ⊥) → cell counts k ≡ 1
    → HasKey ns (get_or xs i 0) k → HasKey ns (get_or xs j 0) k → ⊥
alone t i j k li lj other once has had =
    ⊎_elim (λ e. let z = t.two i li j (omega (arith, other)) k had has in omega arith) (λ e. let z = t.two j lj i (omega arith) k has had in omega arith) (eq-zero-or-pos (j - i))

-- so a set with such a key takes up no other
own_idle : {ns : List Node} {xs counts : List ℕ} {n : ℕ} {t : Attr} → Tallied ns xs n counts → (i : ℕ) → i < n → Owns counts (as_attr (node_at ns (get_or xs i 0)))
    → as_attr (node_at ns (get_or xs i 0)) ≡ some t → (j : ℕ) → j < n → (i ≡ j → ⊥) → subsumes_node t (as_attr (node_at ns (get_or xs j 0))) ≡ false
own_idle {ns} {xs} {counts} {t = t} tally i lt o e j lj other =
    let own = subst (Owns counts) e o in
    lacks_own t (as_attr (node_at ns (get_or xs j 0))) own
    (alone tally i j own.key lt lj other own.once (ap (λ (a : Option Attr). contains (keys_of a) own.key) e ∙ own.had))

-- `mark_if_own`
pub own_skips : {w counts own : List ℕ} {x i : ℕ} → MarksIfOwn w counts x i own own
own_skips = record { is = λ h lt k m. inl m }

pub own_marks : {w counts own own' : List ℕ} {x i : ℕ} {r : Bool} → OwnKey w counts x r → r ≡ true → own' ≡ set own i 1 → MarksIfOwn w counts x i own own'
own_marks {counts = counts} {own = own} {own' = own'} {x = x} {i = i} {r = r} g e f =
    record { is = λ {q} {ns} h lt k m. turn ns (g.is h lt e) k m (eqb k i) refl } where
      turn : (ns : List Node) → Owns counts (as_attr (node_at ns x)) → (k : ℕ) → (cell own' k ≡ 0 → ⊥) → (b : Bool) → eqb k i ≡ b
          → (cell own k ≡ 0 → ⊥) ⊎ ((i ≡ k) × Owns counts (as_attr (node_at ns x)))
      turn ns o k m true z = inr (sym (eqb-true k i z), o)
      turn ns o k m false z = inl (λ u. m (ap (λ (l : List ℕ). cell l k) f ∙ get_or-set_other own i k 1 0 (eqb-false k i z) ∙ u))

-- no place is marked
pub idle_none : {ns : List Node} {xs : List ℕ} → length xs ≤ most_members → Idle ns xs (replicate most_members 0)
idle_none few = record { is = λ i lt m. absurd (m (get_or-replicate most_members i 0 0 (omega arith))) }

-- `mark_own`: a short list, and what one more member adds
module _ {w ms : List ℕ} {n : ℕ} {own₀ : List ℕ} where
  pub owning_none : MarksOwn w ms n own₀ own₀
  owning_none = record { is = λ h t o. o }

  pub owning_more : {counts own own' : List ℕ} {i x : ℕ} → CountsMembers w ms n (replicate most_names 0) counts → MarksOwn w ms n own₀ own → i < n → x ≡ cell ms i
      → MarksIfOwn w counts x i own own' → MarksOwn w ms n own₀ own'
  owning_more {counts} {own} {own'} {i} {x} a c lt e g =
      record {
        is = λ {q} {ns} {xs} h t o.
            let tally = a.is h t (omega (arith, length-replicate {A = ℕ} most_names 0)) in
            let size = t.list.count in
            record {
              is = λ k l m z j lj other.
                  ⊎_elim (λ was. (c.is h t o).is k l was z j lj other)
                  (λ here. own_idle tally k (omega arith)
                  (subst (λ (y : ℕ). Owns counts (as_attr (node_at ns y))) (few_at t.list e lt ∙ ap (λ (v : ℕ). get_or xs v 0) here.0) here.1)
                  z j (omega arith) other)
                  (g.is h (few_below t e lt) k m);
            };
      }
