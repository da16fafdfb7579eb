-- Pairs of a member and its negation. Assumes nothing.
use mathlib.Core.Path.{◌≡◌, refl, sym, ap, ap₂, ◌∙◌, subst}
use mathlib.Core.Bool.{Bool, true, false, not, ◌||◌}
use Prim.Native.Nat.{ℕ, ◌<◌}
use native.Mathlib.Omega.{arith}
use mathlib.Core.List.{List, [], ◌∷◌, ◌++◌}
use lib.ListN.{length, get_or}
use lib.Dec.{eqb}
use borrow.Author.Tests.{eqb-true, eqb-false, eq-eqb, ne_eqb, not-true}
use Rattle.cells.specs.Part.{if}
use Rattle.rules.specs.Plain.{any, filter, contains, both}
use Rattle.rules.specs.Types.{Node, TyVar, Primitive, ListOf, Lambda, AttrSet, Union, Intersection, Named, Neg, Bottom, Top, encode, kind_of, children, node_at, is}
use Rattle.rules.specs.Members.{inner_of, negated_inners, is_positive, cancelled, remove_tautological_pairs}
use Rattle.laws.proofs.Rows.{node_of, by_kind}
use Rattle.lang_ty.specs.declared.arena.Pass.{Pass}
use Rattle.lang_ty.specs.Nodes.{Arena, Word, Is}
use Rattle.lang_ty.proofs.Words.{word_of}
use Rattle.members.specs.declared.lists.Members.{Members}
use Rattle.members.specs.Lists.{Taken, Makes, Tests, Asks, SiftsBy, Contains, Pairs, any_of_kind, of_kind, sift}
use Rattle.simplify.specs.Asked.{negates}
use Rattle.simplify.proofs.Asking.{AnyPair}
use Rattle.simplify.specs.Unions.{halved, Cancels}
use Rattle.members.proofs.Gathered.{taken_list}
use Rattle.cells.specs.Placed.{Under}

-- laws of the rules' lists
or_false : (b : Bool) → b || false ≡ b
or_false true = refl
or_false false = refl

any_turn : (b l r t : Bool) → l ≡ if r (λ _. true) (λ _. t) → if b (λ _. true) (λ _. l) ≡ if (if b (λ _. true) (λ _. r)) (λ _. true) (λ _. t)
any_turn true l r t e = refl
any_turn false l r t e = e

pub any_both : (p : ℕ → Bool) (xs ys : List ℕ) → any p (xs ++ ys) ≡ if (any p xs) (λ _. true) (λ _. any p ys)
any_both p [] ys = refl
any_both p (x ∷ xs) ys = any_turn (p x) (any p (xs ++ ys)) (any p xs) (any p ys) (any_both p xs ys)

-- what the negated members hold, one after another
pub inners_any : (ns : List Node) (xs : List ℕ) (p : ℕ → Bool) → any p (negated_inners ns xs) ≡ any (λ (m : ℕ). any p (inner_of (node_at ns m))) xs
inners_any ns [] p = refl
inners_any ns (m ∷ ms) p =
    any_both p (inner_of (node_at ns m)) (negated_inners ns ms)
    ∙ ap (λ (b : Bool). if (any p (inner_of (node_at ns m))) (λ _. true) (λ _. b)) (inners_any ns ms p)

-- a member that the test keeps
module _ (p : ℕ → Bool) (a : ℕ) where
  sift_turn : (b c : Bool) (x : ℕ) (xs : List ℕ) → eqb a x ≡ c → p x ≡ b → contains (filter p xs) a ≡ both (p a) (λ _. contains xs a)
      → contains (if b (λ _. x ∷ filter p xs) (λ _. filter p xs)) a ≡ both (p a) (λ _. if c (λ _. true) (λ _. contains xs a))
  sift_turn true true x xs e f h =
      ap (λ (t : Bool). if t (λ _. true) (λ _. contains (filter p xs) a)) e
      ∙ sym (ap (λ (t : Bool). both t (λ _. true)) (ap p (eqb-true a x e) ∙ f))
  sift_turn true false x xs e f h = ap (λ (t : Bool). if t (λ _. true) (λ _. contains (filter p xs) a)) e ∙ h
  sift_turn false true x xs e f h =
      let z = ap p (eqb-true a x e) ∙ f in
      h ∙ ap (λ (t : Bool). both t (λ _. contains xs a)) z ∙ sym (ap (λ (t : Bool). both t (λ _. true)) z)
  sift_turn false false x xs e f h = h

  sift_contains : (xs : List ℕ) → contains (filter p xs) a ≡ both (p a) (λ _. contains xs a)
  sift_contains [] = none (p a) where
    none : (b : Bool) → false ≡ both b (λ _. false)
    none true = refl
    none false = refl
  sift_contains (x ∷ xs) = sift_turn (p x) (eqb a x) x xs refl refl (sift_contains xs)

pub no_inner : (n : Node) → (kind_of n ≡ 8 → ⊥) → inner_of n ≡ []
no_inner (TyVar x) h = refl
no_inner (Primitive c) h = refl
no_inner (ListOf a) h = refl
no_inner (Lambda a b) h = refl
no_inner (AttrSet t) h = refl
no_inner (Union ms) h = refl
no_inner (Intersection ms) h = refl
no_inner (Named n a) h = refl
no_inner (Neg a) h = absurd (h refl)
no_inner Bottom h = refl
no_inner Top h = refl

-- the Negs alone hold what all members hold
module _ (ns : List Node) where
  kept_turn : (x : ℕ) (xs : List ℕ) (b : Bool) → is ns 8 x ≡ b → negated_inners ns (filter (is ns 8) xs) ≡ negated_inners ns xs
      → negated_inners ns (if b (λ _. x ∷ filter (is ns 8) xs) (λ _. filter (is ns 8) xs)) ≡ inner_of (node_at ns x) ++ negated_inners ns xs
  kept_turn x xs true e h = ap (λ (l : List ℕ). inner_of (node_at ns x) ++ l) h
  kept_turn x xs false e h = h ∙ sym (ap (λ (l : List ℕ). l ++ negated_inners ns xs) (no_inner (node_at ns x) (eqb-false (kind_of (node_at ns x)) 8 e)))

  pub inners_kept : (xs : List ℕ) → negated_inners ns (filter (is ns 8) xs) ≡ negated_inners ns xs
  inners_kept [] = refl
  inners_kept (x ∷ xs) = kept_turn x xs (is ns 8 x) refl (inners_kept xs)

  -- where no member is a Neg, none holds anything
  none_turn : (x : ℕ) (xs : List ℕ) (b : Bool) → is ns 8 x ≡ b → if b (λ _. true) (λ _. any (is ns 8) xs) ≡ false
      → (inner_of (node_at ns x) ≡ []) × (any (is ns 8) xs ≡ false)
  none_turn x xs true e f = let z : ◌≡◌ {A = ℕ} 0 1 = cc in absurd (omega arith)
  none_turn x xs false e f = (no_inner (node_at ns x) (eqb-false (kind_of (node_at ns x)) 8 e), f)

  pub no_inners : (xs : List ℕ) → any (is ns 8) xs ≡ false → negated_inners ns xs ≡ []
  no_inners [] f = refl
  no_inners (x ∷ xs) f = let g = none_turn x xs (is ns 8 x) refl f in ap₂ (λ (l r : List ℕ). l ++ r) g.0 (no_inners xs g.1)

  -- and none is cancelled
  module _ (ps : List ℕ) where
    uncancelled : (x : ℕ) → inner_of (node_at ns x) ≡ [] → cancelled ns ps [] x ≡ false
    uncancelled x e = ap₂ (λ (a b : Bool). a || b) (neither (is_positive ns x)) (ap (any (contains ps)) e) where
      neither : (b : Bool) → both b (λ _. false) ≡ false
      neither true = refl
      neither false = refl

    all_stay : (xs : List ℕ) → any (is ns 8) xs ≡ false → filter (λ (m : ℕ). not (cancelled ns ps [] m)) xs ≡ xs
    all_stay [] f = refl
    all_stay (x ∷ xs) f =
        let g = none_turn x xs (is ns 8 x) refl f in
        let rest = filter (λ (m : ℕ). not (cancelled ns ps [] m)) xs in
        ap (λ (b : Bool). if (not b) (λ _. x ∷ rest) (λ _. rest)) (uncancelled x g.0) ∙ ap (λ (l : List ℕ). x ∷ l) (all_stay xs g.1)

pub once : (b : Bool) → if b (λ _. true) (λ _. false) ≡ b
once true = refl
once false = refl

not_eqb : (a b : ℕ) → false ≡ eqb a b → a ≡ b → ⊥
not_eqb a b e f = let g = e ∙ eq-eqb a b f in let z : ◌≡◌ {A = ℕ} 0 1 = cc in absurd (omega arith)

swap_by : (a b : ℕ) (c : Bool) → eqb a b ≡ c → c ≡ eqb b a
swap_by a b true e = sym (eq-eqb b a (sym (eqb-true a b e)))
swap_by a b false e = sym (ne_eqb b a (λ f. eqb-false a b e (sym f)))

-- a node that is a negation, with the node that it holds
module _ {w : List ℕ} {m : ℕ} {c : Bool} (a : Is w 8 m c) where
  negation : {v : ℕ} {q : Pass} {ns : List Node} → Arena w q ns → m < length ns → c ≡ true → Word w m 1 v → node_at ns m ≡ Neg v
  negation {v = v} {ns = ns} h lt e b =
      let n = node_at ns m in
      let z = eqb-true (kind_of n) 8 (sym (a.is h lt) ∙ e) in
      let long = by_kind n (λ (k : Node). length (encode k) ≡ 2) 8 z refl in
      let y : v ≡ get_or (encode n) 1 0 = word_of h b lt (omega arith) in
      sym (ap Neg y ∙ node_of n 8 z)

  other : {q : Pass} {ns : List Node} → Arena w q ns → m < length ns → c ≡ false → inner_of (node_at ns m) ≡ []
  other {ns = ns} h lt e = no_inner (node_at ns m) (not_eqb (kind_of (node_at ns m)) 8 (sym e ∙ a.is h lt))

-- `is_negation`
pub negates_not : {w : List ℕ} {x m : ℕ} {c : Bool} → Is w 8 m c → c ≡ false → Pairs negates w x m c
negates_not {x = x} a e = record { is = λ {q} {ns} h lx lt. e ∙ sym (ap (λ (l : List ℕ). contains l x) (other a h lt e)) }

pub negates_is : {w : List ℕ} {x m v : ℕ} {c : Bool} → Is w 8 m c → c ≡ true → Word w m 1 v → Pairs negates w x m (eqb v x)
negates_is {x = x} {v = v} a e b =
    record {
      is = λ {q} {ns} h lx lt.
          swap_by v x (eqb v x) refl ∙ sym (once (eqb x v)) ∙ sym (ap (λ (n : Node). contains (inner_of n) x) (negation a h lt e b));
    }

-- the ways of `is_cancelled`
module _ {w : List ℕ} {x : ℕ} {c : Bool} (a : Is w 8 x c) where
  -- of a negation: whether what it holds is a positive member
  module _ {v : ℕ} {d : Bool} (e : c ≡ true) (b : Word w x 1 v) (p : Asks is_positive w v d) where
    held : {q : Pass} {ns : List Node} (xs ys : List ℕ) → Arena w q ns → x < length ns → both d (λ _. contains xs v) ≡ halved ns xs ys x
    held {q} {ns} xs ys h lt =
        let n = negation a h lt e b in
        let u = (subst (λ (k : Node). Under x (children k)) n (h.below x lt)).0 in
        ap (λ (t : Bool). both t (λ _. contains xs v)) (p.is h (omega arith))
        ∙ sym (sift_contains (is_positive ns) v xs)
        ∙ sym (once (contains (filter (is_positive ns) xs) v))
        ∙ sym (ap (λ (k : Node). both (not (eqb (kind_of k) 8 || eqb (kind_of k) 0 || eqb (kind_of k) 9 || eqb (kind_of k) 10))
        (λ _. contains (negated_inners ns ys) x) || any (contains (filter (is_positive ns) xs)) (inner_of k)) n)

    pub cancel_none : {m g : Members} → d ≡ false → Cancels w m g x d
    cancel_none z = record { is = λ {q} {ns} {xs} {ys} h t u lt. z ∙ sym (ap (λ (b : Bool). both b (λ _. contains xs v)) z) ∙ held xs ys h lt }

    pub cancel_held : {m g : Members} {r : Bool} → d ≡ true → Contains m.at m.count v r → Cancels w m g x r
    cancel_held z g =
        record {
          is = λ {q} {ns} {xs} {ys} h t u lt.
              g.is
              ∙ ap (λ (l : List ℕ). contains l v) (taken_list t)
              ∙ sym (ap (λ (b : Bool). both b (λ _. contains xs v)) z)
              ∙ held xs ys h lt;
        }

  -- of another: whether it is positive and its negation a member
  module _ {d : Bool} (e : c ≡ false) (p : Asks is_positive w x d) where
    alone : {q : Pass} {ns : List Node} (xs ys : List ℕ) → Arena w q ns → x < length ns → both d (λ _. any (negates ns x) ys) ≡ halved ns xs ys x
    alone {q} {ns} xs ys h lt =
        ap₂ (λ (t u : Bool). both t (λ _. u)) (p.is h lt) (sym (inners_any ns ys (eqb x)))
        ∙ sym (or_false (both (is_positive ns x) (λ _. contains (negated_inners ns ys) x)))
        ∙ sym (ap (λ (l : List ℕ). both (is_positive ns x) (λ _. contains (negated_inners ns ys) x) || any (contains (filter (is_positive ns) xs)) l) (other a h lt e))

    pub cancel_pair : {m g : Members} {r : Bool} → d ≡ true → AnyPair negates w g 0 x r → Cancels w m g x r
    cancel_pair z g =
        record {
          is = λ {q} {ns} {xs} {ys} h t u lt.
              g.is h u lt ∙ sym (ap (λ (b : Bool). both b (λ _. any (negates ns x) ys)) z) ∙ alone xs ys h lt;
        }

-- `remove_tautological_pairs` keeps the others: all where no member is a Neg
pub unpaired_same : {w : List ℕ} {m : Members} {b : Bool} → Tests (any_of_kind 8) w m b → not b ≡ true → Makes remove_tautological_pairs w m m
unfolding remove_tautological_pairs
unpaired_same {m = m} {b = b} g e =
    record {
      is = λ {q} {ns} {xs} h t.
          let none = sym (g.is h t) ∙ not-true b e in
          let ps = filter (is_positive ns) xs in
          subst (λ (l : List ℕ). Taken m l (length ns))
          (sym (ap (λ (l : List ℕ). filter (λ (y : ℕ). not (cancelled ns ps l y)) xs) (no_inners ns xs none) ∙ all_stay ns ps xs none))
          t;
    }

-- the others, by the Negs alone
abbrev pub unpaired : List Node → List ℕ → List ℕ → ℕ → Bool
unpaired ns xs ys x = not (halved ns xs ys x)

pub record Unpaired (w : List ℕ) (m g : Members) (x : ℕ) (b : Bool) : Type 0 where
  pub is : {q : Pass} {ns : List Node} {xs ys : List ℕ} → Arena w q ns → Taken m xs (length ns) → Taken g ys (length ns) → x < length ns → b ≡ unpaired ns xs ys x

pub unpaired_one : {w : List ℕ} {m g : Members} {x : ℕ} {b d : Bool} → Cancels w m g x d → b ≡ not d → Unpaired w m g x b
unpaired_one c e = record { is = λ h t u lt. e ∙ ap not (c.is h t u lt) }

pub unpaired_all : {w : List ℕ} {m g r : Members} {Answered : ℕ → Bool → Type 0} → Makes (sift (of_kind 8 true)) w m g → SiftsBy Answered m r
    → ((y : ℕ) (b : Bool) → Answered y b → Unpaired w m g y b) → Makes remove_tautological_pairs w m r
unfolding remove_tautological_pairs
unpaired_all {r = r} g c says =
    record {
      is = λ {q} {ns} {xs} h t.
          subst (λ (l : List ℕ). Taken r (filter (λ (y : ℕ). not (cancelled ns (filter (is_positive ns) xs) l y)) xs) (length ns)) (inners_kept ns xs)
          (c.is (unpaired ns xs (filter (is ns 8) xs)) t (λ y b l a. (says y b a).is h t (g.is h t) l));
    }
