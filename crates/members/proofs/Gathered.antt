-- Members gathered one after another, sifted by a test, searched, and put together. Assumes nothing.
use mathlib.Core.Path.{◌≡◌, refl, sym, ap, ap₂, ◌∙◌, subst}
use mathlib.Core.Bool.{Bool, true, false, not, ◌||◌, not-not}
use mathlib.Core.Logic.{◌⊎◌, ⊎_elim}
use Prim.Native.Nat.{ℕ, suc, ◌+◌, ◌-◌, ◌≤◌, ◌<◌}
use native.Mathlib.Omega.{arith}
use native.Mathlib.Nat.{eq-zero-or-pos}
use native.Mathlib.Numerals.{add-one}
use mathlib.Core.List.{List, [], ◌∷◌, ◌++◌, append-nil}
use lib.ListN.{length, get_or, take, drop, set, replicate, length-set, length-append, length-replicate}
use lib.Seq.{get_or-set_same, get_or-set_other, take_all, take-suc, length-take-le}
use lib.Dec.{eqb, leb}
use borrow.Author.Tests.{eq-eqb, ne_eqb, le-ltb, le-leb, lt-ltb}
use Rattle.cells.specs.Part.{cell, part, if}
use Rattle.cells.specs.Sum.{Sum}
use Rattle.cells.proofs.Parts.{run_length, run_get_d, run_snoc}
use Rattle.cells.proofs.Holding.{holds_none, holds_place, holds_cons, holds_both, holds_ext, holds_at, holds_head, holds_list}
use Rattle.rules.specs.Ceilings.{most_members}
use Rattle.rules.specs.Plain.{any, all, filter, both}
use Rattle.rules.specs.Types.{Node, TyVar, Primitive, ListOf, Lambda, AttrSet, Union, Intersection, Named, Neg, Bottom, Top, State, Out, ok, no, bind, give, store, kind_of, node_at, encode}
use Rattle.rules.specs.Members.{sole, members_at, is_positive, is_concrete}
use Rattle.rules.specs.Canonicalizer.{drops_node}
use Rattle.rules.specs.Canonicalizer as rules
use Rattle.laws.proofs.Rows.{node_of, by_kind}
use Rattle.laws.proofs.Rooting.{members_below}
use Rattle.lang_ty.specs.Shapes.{Constructor}
use Rattle.lang_ty.specs.declared.arena.OutputTy.{OutputTy}
use Rattle.lang_ty.specs.declared.arena.OutputTy.TheVariants as kinds
use Rattle.lang_ty.proofs.Codes.{other}
use Rattle.lang_ty.proofs.Words.{word_of}
use Rattle.laws.proofs.Filtering.{kept, filter_take, filter_length, filter_under, under_at, under_both, any_here, any_more, any_done}
use Rattle.lang_ty.specs.declared.arena.Pass.{Pass}
use Rattle.lang_ty.specs.Nodes.{code, Arena, Stands, Answers as Stores, Lists as ListNode, Listed as ListedNode, Word, Kind, Is, Count, Member}
use Rattle.lang_ty.specs.Given.{Given}
use Rattle.lang_ty.specs.Given.{Node as NodeG, Refused as RefusedN}
use Rattle.members.specs.declared.lists.Members.{Members}
use Rattle.members.specs.Flow.{Flow, On, Refused}
use Rattle.members.specs.Listed.{Listed}
use Rattle.members.specs.AtMostOne.{AtMostOne}
use Rattle.members.specs.AtMostOne.{Nothing, One, Refused as RefusedP}
use Rattle.members.specs.Grown.{On as OnG}
use Rattle.members.specs.Lists.{Few, Lists, Taken, Asks, Contains, first_of, MembersOf, Gathered, only, KeepsIf, of_kind, Wraps, PartIs, AnswersPart}
use Rattle.members.specs.Lists.{Soles, Grows, CopiedInto, Joined, AsListed, WithLast, Preserves, Drops, stays, AnswersFlow, Answers}
use Rattle.cells.specs.Placed.{Holds}

pub few_lists : {m : Members} {xs : List ℕ} → Few m xs → Lists m xs
few_lists h = record { fit = λ z. h; many = λ z. let f = h.few in absurd (omega arith) }

-- member i of a list that a rule may take
pub few_at : {m : Members} {xs : List ℕ} {i x : ℕ} → Few m xs → x ≡ cell m.at i → i < m.count → x ≡ get_or xs i 0
few_at {m = m} {i = i} h e lt = let z : i ≡ 0 + i = omega arith in e ∙ ap (cell m.at) z ∙ holds_at h.holds i (omega (arith, h.count))

pub few_below : {m : Members} {xs : List ℕ} {k i x : ℕ} → Taken m xs k → x ≡ cell m.at i → i < m.count → x < k
few_below {xs = xs} {k = k} {i = i} h e lt =
    let z = under_at k xs i h.below (omega (arith, h.list.count)) in
    let f = few_at h.list e lt in
    omega arith

-- what was gathered: nothing, and one more
pub gathered_none : {out : List ℕ} → length out ≡ most_members → Gathered out 0 []
gathered_none {out} e = record { count = refl; holds = holds_none out 0; room = e }

pub gathered_more : {out out' xs : List ℕ} {k r : ℕ} (x : ℕ) → Gathered out k xs → length xs < most_members → out' ≡ set out k x → Sum k 1 r → Gathered out' r (xs ++ (x ∷ []))
gathered_more {out} {out'} {xs} {k} {r} x g lt e sum =
    let c = g.count in
    let long = length-append xs (x ∷ []) in
    let z : r ≡ k + 1 = sum.is (omega arith) in
    record {
      count = omega arith;
      holds =
          subst (λ (l : List ℕ). Holds l 0 (xs ++ (x ∷ []))) (sym e)
          (holds_both xs (x ∷ [])
          (holds_ext g.holds (λ j le. get_or-set_other out k j x 0 (omega arith)))
          (holds_place (omega arith) (holds_cons (get_or-set_same out k x 0 (omega (arith, g.room))) (holds_none (set out k x) (suc k)))));
      room = ap length e ∙ length-set out k x ∙ g.room;
    }

pub gathered_few : {out xs : List ℕ} {k : ℕ} → Gathered out k xs → length xs ≤ most_members → Few (first_of k out) xs
gathered_few g le = record { count = g.count; holds = g.holds; few = le }

pub gathered_list : {out xs ys : List ℕ} {k : ℕ} → xs ≡ ys → Gathered out k xs → Gathered out k ys
gathered_list {out} {k = k} e g = subst (λ (l : List ℕ). Gathered out k l) e g

keeps_none : {out : List ℕ} (k x : ℕ) (b : Bool) → not b ≡ true → KeepsIf out k x b out k
keeps_none k x true e = let z : ◌≡◌ {A = ℕ} 0 1 = cc in absurd (omega arith)
keeps_none k x false e = record { is = λ {xs} g lt. gathered_list (sym (append-nil xs)) g }

keeps_some : {out out' : List ℕ} (k x : ℕ) {r : ℕ} (b : Bool) → not b ≡ false → out' ≡ set out k x → Sum k 1 r → KeepsIf out k x b out' r
keeps_some k x true e f sum = record { is = λ g lt. gathered_more x g lt f sum }
keeps_some k x false e f sum = let z : ◌≡◌ {A = ℕ} 0 1 = cc in absurd (omega arith)

pub keeps_not : {out : List ℕ} {k x : ℕ} {b : Bool} → not b ≡ true → KeepsIf out k x b out k
keeps_not {k = k} {x} {b} e = keeps_none k x b e

pub keeps_one : {out out' : List ℕ} {k x r : ℕ} {b : Bool} → not b ≡ false → out' ≡ set out k x → Sum k 1 r → KeepsIf out k x b out' r
keeps_one {k = k} {x} {b = b} e f sum = keeps_some k x b e f sum

pub kept_only : (b : Bool) (x : ℕ) → only b x ≡ kept b x
kept_only true x = refl
kept_only false x = refl

-- what a test takes for granted beside the node: nothing, or that the first n cells of ms are the list xs
abbrev pub alone : Unit {0} → List Node → Type 0
alone u ns = Unit {0}

abbrev pub listed : List ℕ → ℕ → List ℕ → List Node → Type 0
listed ms n xs ns = Taken (first_of n ms) xs (length ns)

-- b is the answer of the test f on x, for each a that P takes for granted
pub record Tried {A : Type 0} (P : A → List Node → Type 0) (f : A → List Node → ℕ → Bool) (w : List ℕ) (x : ℕ) (b : Bool) : Type 0 where
  pub is : {q : Pass} {ns : List Node} (a : A) → Arena w q ns → P a ns → x < length ns → b ≡ f a ns x

-- members sifted by such a test, at member i; and all of them
pub record Sifting {A : Type 0} (P : A → List Node → Type 0) (f : A → List Node → ℕ → Bool) (w ms : List ℕ) (n : ℕ) (out : List ℕ) (k i : ℕ) : Type 0 where
  pub is : {q : Pass} {ns : List Node} {xs : List ℕ} (a : A) → Arena w q ns → P a ns → Taken (first_of n ms) xs (length ns) → Gathered out k (filter (f a ns) (take i xs))

pub record Sifted {A : Type 0} (P : A → List Node → Type 0) (f : A → List Node → ℕ → Bool) (w : List ℕ) (m r : Members) : Type 0 where
  pub is : {q : Pass} {ns : List Node} {xs : List ℕ} (a : A) → Arena w q ns → P a ns → Taken m xs (length ns) → Taken r (filter (f a ns) xs) (length ns)

-- members searched by such a test from a place on, at member i; and to the end
pub record Searching {A : Type 0} (P : A → List Node → Type 0) (f : A → List Node → ℕ → Bool) (w ms : List ℕ) (from n i : ℕ) : Type 0 where
  pub is : {q : Pass} {ns : List Node} {xs : List ℕ} (a : A) → Arena w q ns → P a ns → Taken (first_of n ms) xs (length ns)
      → any (f a ns) (drop i xs) ≡ any (f a ns) (drop from xs)

pub record Searched {A : Type 0} (P : A → List Node → Type 0) (f : A → List Node → ℕ → Bool) (w ms : List ℕ) (from n : ℕ) (r : Bool) : Type 0 where
  pub is : {q : Pass} {ns : List Node} {xs : List ℕ} (a : A) → Arena w q ns → P a ns → Taken (first_of n ms) xs (length ns) → r ≡ any (f a ns) (drop from xs)

module _ {A : Type 0} {P : A → List Node → Type 0} {f : A → List Node → ℕ → Bool} {w ms : List ℕ} {n : ℕ} where
  says : {i x : ℕ} {b : Bool} → i < n → x ≡ cell ms i → Tried P f w x b → {q : Pass} {ns : List Node} {xs : List ℕ} (a : A) → Arena w q ns → P a ns
      → Taken (first_of n ms) xs (length ns) → b ≡ f a ns (get_or xs i 0)
  says lt e t {ns = ns} a h p m = t.is a h p (few_below m e lt) ∙ ap (f a ns) (few_at m.list e lt)

  pub sifting_start : Sifting P f w ms n (replicate most_members 0) 0 0
  sifting_start = record { is = λ a h p m. gathered_none (length-replicate {A = ℕ} most_members 0) }

  pub sifting_more : {out out' : List ℕ} {k k' i x : ℕ} {b : Bool} → Sifting P f w ms n out k i → i < n → x ≡ cell ms i → Tried P f w x b → KeepsIf out k x b out' k'
      → Sifting P f w ms n out' k' (i + 1)
  sifting_more {i = i} {x = x} {b = b} c lt e t g =
      record {
        is = λ {q} {ns} {xs} a h p m.
            let size = m.list.count in
            let l = filter_length (f a ns) (take i xs) in
            let z = length-take-le i xs (omega arith) in
            gathered_list
            (ap (λ (l : List ℕ). filter (f a ns) (take i xs) ++ l) (kept_only b x ∙ ap₂ kept (says lt e t a h p m) (few_at m.list e lt))
            ∙ sym (ap (λ (j : ℕ). filter (f a ns) (take j xs)) (add-one i) ∙ filter_take (f a ns) xs i (omega arith)))
            (g.is (c.is a h p m) (omega (arith, m.list.few)));
      }

  pub sifting_done : {out : List ℕ} {k i : ℕ} → Sifting P f w ms n out k i → n ≤ i → Sifted P f w (first_of n ms) (first_of k out)
  sifting_done {i = i} c le =
      record {
        is = λ {q} {ns} {xs} a h p m.
            record {
              list =
                  gathered_few
                  (gathered_list (ap (filter (f a ns)) (take_all i xs (omega (arith, m.list.count)))) (c.is a h p m))
                  (omega (arith, filter_length (f a ns) xs, m.list.few));
              below = filter_under (f a ns) (length ns) xs m.below;
            };
      }

  module _ {from : ℕ} where
    pub searching_start : Searching P f w ms from n from
    searching_start = record { is = λ a h p m. refl }

    module _ {i x : ℕ} {b : Bool} (c : Searching P f w ms from n i) (lt : i < n) (e : x ≡ cell ms i) (t : Tried P f w x b) where
      pub searching_here : b ≡ true → Searched P f w ms from n true
      searching_here z =
          record { is = λ {q} {ns} {xs} a h p m. any_here (f a ns) xs i (c.is a h p m) (omega (arith, m.list.count)) (sym z ∙ says lt e t a h p m) }

      pub searching_more : b ≡ false → Searching P f w ms from n (i + 1)
      searching_more z =
          record { is = λ {q} {ns} {xs} a h p m. any_more (f a ns) xs i (c.is a h p m) (omega (arith, m.list.count)) (sym z ∙ says lt e t a h p m) }

    pub searching_done : {i : ℕ} → Searching P f w ms from n i → n ≤ i → Searched P f w ms from n false
    searching_done {i} c le = record { is = λ {q} {ns} {xs} a h p m. any_done (f a ns) xs i (c.is a h p m) (omega (arith, m.list.count)) }

-- a test that holds of all, and none of which it fails
all_turn : (b c d : Bool) → c ≡ not d → if b (λ _. c) (λ _. false) ≡ not (if (not b) (λ _. true) (λ _. d))
all_turn true c d e = e
all_turn false c d e = refl

pub all_not : (p : ℕ → Bool) (xs : List ℕ) → all p xs ≡ not (any (λ (y : ℕ). not (p y)) xs)
all_not p [] = refl
all_not p (x ∷ xs) = all_turn (p x) (all p xs) (any (λ (y : ℕ). not (p y)) xs) (all_not p xs)

-- the members of node x put into a list, at member i
pub record Opening (w : List ℕ) (x : ℕ) (out : List ℕ) (i : ℕ) : Type 0 where
  pub is : {q : Pass} {ns : List Node} → Arena w q ns → x < length ns → Gathered out i (take i (members_at ns x))

module _ {w : List ℕ} {x : ℕ} where
  pub opening_start : Opening w x (replicate most_members 0) 0
  opening_start = record { is = λ h lt. gathered_none (length-replicate {A = ℕ} most_members 0) }

  pub opening_more : {n i y : ℕ} {out out' : List ℕ} → Count w x n → Opening w x out i → i < n → Member w x i y → out' ≡ set out i y → Opening w x out' (i + 1)
  opening_more {i = i} {y = y} count c lt member e =
      record {
        is = λ {q} {ns} h le.
            let ms = members_at ns x in
            let size = count.is h le in
            gathered_list
            (ap (λ (z : ℕ). take i ms ++ (z ∷ [])) (member.is h le (omega arith)) ∙ sym (ap (λ (j : ℕ). take j ms) (add-one i) ∙ take-suc ms i 0 (omega arith)))
            (gathered_more y (c.is h le) (omega (arith, length-take-le i ms (omega arith), h.slim x le)) e (record { is = λ z. refl; full = λ z. omega (arith, h.slim x le) }));
      }

  pub opening_done : {n i : ℕ} {out : List ℕ} → Count w x n → Opening w x out i → n ≤ i → MembersOf w x (first_of n out)
  opening_done {i = i} count c le =
      record {
        is = λ {q} {ns} h lt.
            let ms = members_at ns x in
            let size = count.is h lt in
            record {
              list = record { count = size; holds = (gathered_list (take_all i ms (omega arith)) (c.is h lt)).holds; few = h.slim x lt };
              below = members_below ns x (record { is = h.below });
            };
      }

-- `contains` at cell i
pub record Containing (s : List ℕ) (n x i : ℕ) : Type 0 where
  pub few : i ≤ n
  pub is : any (eqb x) (drop i (part s 0 n)) ≡ any (eqb x) (part s 0 n)

module _ {s : List ℕ} {n x : ℕ} where
  pub containing_start : Containing s n x 0
  containing_start = record { few = omega arith; is = refl }

  module _ {i y : ℕ} (c : Containing s n x i) (lt : i < n) (e : y ≡ cell s i) where
    here : y ≡ get_or (part s 0 n) i 0
    here = e ∙ sym (run_get_d (cell s) 0 n i 0 lt ∙ ap (cell s) (omega arith))

    pub containing_here : y ≡ x → Contains s n x true
    containing_here z =
        record { is = any_here (eqb x) (part s 0 n) i c.is (omega (arith, run_length (cell s) 0 n)) (sym (ap (eqb x) (sym here) ∙ eq-eqb x y (sym z))) }

    pub containing_more : (y ≡ x → ⊥) → Containing s n x (i + 1)
    containing_more z =
        record {
          few = omega arith;
          is = any_more (eqb x) (part s 0 n) i c.is (omega (arith, run_length (cell s) 0 n)) (sym (ap (eqb x) (sym here) ∙ ne_eqb x y (λ o. z (sym o))));
        }

  pub containing_done : {i : ℕ} → Containing s n x i → n ≤ i → Contains s n x false
  containing_done {i} c le = record { is = any_done (eqb x) (part s 0 n) i c.is (omega (arith, run_length (cell s) 0 n)) }

-- `held` and `copy_into` at number i: as many as fit stand after the first k
pub record Filling (k : ℕ) (from : List ℕ) (a n : ℕ) (out₀ out : List ℕ) (i : ℕ) : Type 0 where
  pub few : i ≤ n
  pub same : length out ≡ length out₀
  pub below : (j : ℕ) → j < k → cell out j ≡ cell out₀ j
  pub is : k + i ≤ length out₀ → Holds out k (part from a i)

module _ {k a n : ℕ} {from out₀ : List ℕ} where
  pub filling_start : Filling k from a n out₀ out₀ 0
  filling_start = record { few = omega arith; same = refl; below = λ j lt. refl; is = λ h. holds_none out₀ k }

  pub filling_more : {out out' : List ℕ} {i p o v : ℕ} → Filling k from a n out₀ out i → i < n → p ≡ k + i → o ≡ a + i → v ≡ cell from o → out' ≡ set out p v
      → Filling k from a n out₀ out' (i + 1)
  filling_more {out} {out'} {i} {p} {o} {v} c lt e d f g =
      subst (λ (l : List ℕ). Filling k from a n out₀ l (i + 1)) (sym g)
      (record {
        few = omega arith;
        same = length-set out p v ∙ c.same;
        below = λ j le. get_or-set_other out p j v 0 (omega arith) ∙ c.below j le;
        is = λ room.
            let size = run_length (cell from) a i in
            holds_list
            (ap (λ (x : ℕ). part from a i ++ (x ∷ [])) (f ∙ ap (cell from) d) ∙ sym (ap (part from a) (add-one i) ∙ run_snoc (cell from) a i))
            (holds_both (part from a i) (v ∷ [])
            (holds_ext (c.is (omega arith)) (λ j le. get_or-set_other out p j v 0 (omega arith)))
            (holds_place (omega arith) (holds_cons (get_or-set_same out p v 0 (omega (arith, c.same))) (holds_none (set out p v) (suc p)))));
      })

  filling_done : {out : List ℕ} {i : ℕ} → Filling k from a n out₀ out i → n ≤ i → k + n ≤ length out₀ → Holds out k (part from a n)
  filling_done {out} {i} c le room =
      let f = c.few in
      let e : i ≡ n = omega arith in
      holds_list (ap (part from a) e) (c.is (omega arith))

pub held_is : {s out : List ℕ} {h n i : ℕ} → Filling 0 s h n (replicate most_members 0) out i → n ≤ i → Lists (first_of n out) (part s h n)
held_is {s} {out} {h} {n} c le =
    let size = run_length (cell s) h n in
    record {
      fit = λ z. record { count = sym size; holds = filling_done c le (omega (arith, length-replicate {A = ℕ} most_members 0)); few = z };
      many = λ z. omega arith;
    }

pub copied_is : {out out' : List ℕ} {k n i r : ℕ} {ms : List ℕ} → Filling k ms 0 n out out' i → n ≤ i → Sum k n r → CopiedInto out k (first_of n ms) out' r
copied_is {out} {out'} {k} {n} {i} {r} {ms} c le sum =
    record {
      sum = sum;
      is = λ {xs} {ys} g m few.
          let a = g.count in
          let b = m.count in
          let z : r ≡ k + n = sum.is (omega arith) in
          record {
            count = omega (arith, length-append xs ys);
            holds =
                holds_both xs ys (holds_ext g.holds (λ j lt. c.below j (omega arith)))
                (holds_place (omega arith) (holds_list (ap (part ms 0) b ∙ m.holds.is) (filling_done c le (omega (arith, g.room)))));
            room = c.same ∙ g.room;
          };
    }

sum_over : {a b r : ℕ} → Sum a b r → most_members < a + b → most_members < r
sum_over {a} {b} {r} s h =
    ⊎_elim (λ e. let f = s.is (omega arith) in omega arith) (λ e. let f = s.full (omega arith) in omega arith) (eq-zero-or-pos (a + b - 4294967295))

pub joined_is : {a b : Members} {out out' : List ℕ} {k n : ℕ} → CopiedInto (replicate most_members 0) 0 a out k → CopiedInto out k b out' n → Joined a b (first_of n out')
joined_is {a} {b} {out} {out'} {k} {n} c d =
    record {
      is = λ {xs} {ys} l m.
          let long = length-append xs ys in
          record {
            fit = λ z.
                gathered_few
                (d.is (c.is (gathered_none (length-replicate {A = ℕ} most_members 0)) (l.fit (omega arith)) (omega arith)) (m.fit (omega arith)) (omega arith))
                z;
            many = λ z.
                let low : most_members < a.count → most_members < n = λ h. sum_over d.sum (omega (arith, sum_over c.sum (omega arith))) in
                let high : most_members < b.count → most_members < n = λ h. sum_over d.sum (omega arith) in
                ⊎_elim
                (λ e. ⊎_elim
                (λ f.
                let x = (l.fit (omega arith)).count in
                let y = (m.fit (omega arith)).count in
                let t : k ≡ 0 + a.count = c.sum.is (omega arith) in
                sum_over d.sum (omega arith))
                (λ f. high (m.many (omega arith)))
                (eq-zero-or-pos (length ys - most_members)))
                (λ e. low (l.many (omega arith)))
                (eq-zero-or-pos (length xs - most_members));
          };
    }

-- the ways of `sole`
pub taken_list : {m : Members} {xs : List ℕ} {k : ℕ} → Taken m xs k → part m.at 0 m.count ≡ xs
taken_list {m} t = ap (part m.at 0) t.list.count ∙ t.list.holds.is

sole_node : {w : List ℕ} {z : ℕ} {q : Pass} {o : Out ℕ} → Stores o w (NodeG z q) → PartIs (bind o (λ x. give (x ∷ []))) w (z ∷ []) q
sole_node a =
    let g = a.is in
    record { after = g.after; is = ap (λ (o : Out ℕ). bind o (λ x. give (x ∷ []))) g.is; stands = g.stands; below = (g.below, tt) }

module _ {w : List ℕ} {q : Pass} {m : Members} where
  none_way : {st : State} (xs : List ℕ) (wrap : List ℕ → Node) → Stands st w q → Taken m xs q.nodes → m.count ≡ 0 → AnswersPart (sole wrap xs st) w (Nothing q)
  none_way {st} [] wrap on t e = record { after = st; is = refl; stands = on; below = tt }
  none_way (x ∷ xs) wrap on t e = absurd (omega (arith, t.list.count))

  pub sole_none : {kind : ℕ} → m.count ≡ 0 → Soles kind w q m w (Nothing q)
  sole_none e = record { is = λ {st} {xs} {wrap} wraps on t. none_way xs wrap on t e }

  one_way : {st : State} (xs : List ℕ) (wrap : List ℕ → Node) → Stands st w q → Taken m xs q.nodes → m.count ≡ 1 → AnswersPart (sole wrap xs st) w (One (cell m.at 0) q)
  one_way [] wrap on t e = absurd (omega (arith, t.list.count))
  one_way {st} (x ∷ []) wrap on t e =
      let z = holds_head t.list.holds in
      let b = t.below.0 in
      record { after = st; is = ap (λ (y : ℕ). ok (y ∷ []) st) (sym z); stands = on; below = (omega (arith, on.arena.count), tt) }
  one_way (x ∷ y ∷ xs) wrap on t e = absurd (omega (arith, t.list.count))

  pub sole_one : {kind x : ℕ} → m.count ≡ 1 → x ≡ cell m.at 0 → Soles kind w q m w (One x q)
  sole_one {kind} {x} e f =
      record { is = λ {st} {xs} {wrap} wraps on t. subst (λ (y : ℕ). AnswersPart (sole wrap xs st) w (One y q)) (sym f) (one_way xs wrap on t e) }

  module _ {kind : ℕ} {w' : List ℕ} {g : Given} (none : m.count ≡ 0 → ⊥) (one : m.count ≡ 1 → ⊥) (h : ListedNode kind m.at 0 m.count w q w' g) where
    stored : {st : State} {xs : List ℕ} {wrap : List ℕ → Node} → Wraps kind wrap → Stands st w q → Taken m xs q.nodes → Stores (store (wrap xs) st) w' g
    stored {st} {xs} {wrap} wraps on t =
        h.is on (subst (λ (l : List ℕ). ListNode (wrap xs) kind l q.nodes) (sym (taken_list t)) (wraps.is xs t.below))

    more_way : (st : State) (xs : List ℕ) (wrap : List ℕ → Node) → Taken m xs q.nodes → sole wrap xs st ≡ bind (store (wrap xs) st) (λ x. give (x ∷ []))
    more_way st [] wrap t = absurd (none t.list.count)
    more_way st (x ∷ []) wrap t = absurd (one t.list.count)
    more_way st (x ∷ y ∷ xs) wrap t = refl

    pub sole_stored : {x : ℕ} {r : Pass} → g ≡ NodeG x r → Soles kind w q m w' (One x r)
    sole_stored {x} {r} e =
        record {
          is = λ {st} {xs} {wrap} wraps on t.
              subst (λ (o : Out (List ℕ)). AnswersPart o w' (One x r)) (sym (more_way st xs wrap t))
              (sole_node (subst (λ (y : Given). Stores (store (wrap xs) st) w' y) e (stored wraps on t)));
        }

    pub sole_refused : {k : ℕ} → g ≡ RefusedN k → Soles kind w q m w' (RefusedP k)
    sole_refused {k} e =
        record {
          is = λ {st} {xs} {wrap} wraps on t.
              more_way st xs wrap t
              ∙ ap (λ (o : Out ℕ). bind o (λ x. give (x ∷ []))) (subst (λ (y : Given). Stores (store (wrap xs) st) w' y) e (stored wraps on t)).is;
        }

-- the ways of `of_kind`: what its two sieves are answered
module _ {w : List ℕ} {k x : ℕ} {c : Bool} (a : Is w k x c) {q : Pass} {ns : List Node} (h : Arena w q ns) (lt : x < length ns) where
  kind_by : (wanted : Bool) {b : Bool} → wanted ≡ true → b ≡ c → b ≡ of_kind k wanted ns x
  kind_by true e f = f ∙ a.is h lt
  kind_by false e f = let z : ◌≡◌ {A = ℕ} 0 1 = cc in absurd (omega arith)

  other_by : (wanted : Bool) {b : Bool} → wanted ≡ false → b ≡ not c → b ≡ of_kind k wanted ns x
  other_by true e f = let z : ◌≡◌ {A = ℕ} 0 1 = cc in absurd (omega arith)
  other_by false e f = f ∙ ap not (a.is h lt)

  pub kind_wanted : {wanted b : Bool} → wanted ≡ true → b ≡ c → b ≡ of_kind k wanted ns x
  kind_wanted {wanted} e f = kind_by wanted e f

  pub kind_unwanted : {wanted b : Bool} → wanted ≡ false → b ≡ not c → b ≡ of_kind k wanted ns x
  kind_unwanted {wanted} e f = other_by wanted e f

-- unions and intersections are lists of their members
pub wraps_union : Wraps 5 Union
wraps_union = record { is = λ xs b. record { row = refl; cells = omega arith; members = refl; plain = refl; below = b } }

pub wraps_intersection : Wraps 6 Intersection
wraps_intersection = record { is = λ xs b. record { row = refl; cells = omega arith; members = refl; plain = refl; below = b } }

-- the ways of `grow`
pub grow_nothing : {out : List ℕ} {k : ℕ} {p : AtMostOne} {q : Pass} → p ≡ Nothing q → Grows out k p out (OnG k q)
grow_nothing {out} {k} {p} {q} e =
    record {
      is = λ o w {xs} a g lt.
          let b = subst (λ (x : AtMostOne). AnswersPart o w x) e a in
          record { after = b.after; list = []; is = b.is; stands = b.stands; below = tt; most = omega arith; gathered = gathered_list (sym (append-nil xs)) g };
    }

pub grow_one : {out out' : List ℕ} {k r x : ℕ} {p : AtMostOne} {q : Pass} → p ≡ One x q → out' ≡ set out k x → Sum k 1 r → Grows out k p out' (OnG r q)
grow_one {out} {out'} {k} {r} {x} {p} {q} e f sum =
    record {
      is = λ o w {xs} a g lt.
          let b = subst (λ (x : AtMostOne). AnswersPart o w x) e a in
          record { after = b.after; list = x ∷ []; is = b.is; stands = b.stands; below = b.below; most = omega arith; gathered = gathered_more x g lt f sum };
    }

-- the ways of `of_at_most_one` and `with_last`
pub listed_nothing : {p : AtMostOne} {q : Pass} {m : Members} → p ≡ Nothing q → Few m [] → AsListed p (record { flow = On q; members = m })
listed_nothing {p} {q} e f =
    record {
      is = λ o w a.
          let b = subst (λ (x : AtMostOne). AnswersPart o w x) e a in
          record { after = b.after; list = []; is = b.is; stands = b.stands; taken = record { list = f; below = tt } };
    }

pub listed_one : {p : AtMostOne} {q : Pass} {x : ℕ} {m : Members} → p ≡ One x q → Few m (x ∷ []) → AsListed p (record { flow = On q; members = m })
listed_one {p} {q} {x} e f =
    record {
      is = λ o w a.
          let b = subst (λ (x : AtMostOne). AnswersPart o w x) e a in
          record { after = b.after; list = x ∷ []; is = b.is; stands = b.stands; taken = record { list = f; below = b.below } };
    }

-- a refusal answers a refusal
pub refuses : {k : ℕ} (r : Listed) (o : Out (List ℕ)) (w : List ℕ) → r.flow ≡ Refused k → o ≡ no k → Answers o w r
refuses r o w f e = subst (λ (x : Flow). AnswersFlow o w r.members x) (sym f) e

pub last_node : {m n l : Members} {g : Given} {x : ℕ} {q : Pass} → g ≡ NodeG x q → Few n (x ∷ []) → Joined m n l → WithLast m g (record { flow = On q; members = l })
last_node {m} {n} {l} {g} {x} {q} e f j =
    record {
      is = λ o w {xs} a few lt below.
          let b = (subst (λ (y : Given). Stores o w y) e a).is in
          let long = length-append xs (x ∷ []) in
          record {
            after = b.after;
            list = xs ++ (x ∷ []);
            is = ap (λ (o : Out ℕ). bind o (λ x. give (xs ++ (x ∷ [])))) b.is;
            stands = b.stands;
            taken = record {
              list = (j.is (few_lists few) (few_lists f)).fit (omega arith);
              below = under_both (length b.after.nodes) xs (x ∷ []) (below x b.after b.is) (b.below, tt);
            };
          };
    }

-- a member that is no filler, as `drop_fillers` is answered
pub stays_if : {p : rules.Pass} {table w : List ℕ} {f count x : ℕ} {q : Pass} {ns : List Node} {b d : Bool} → Preserves p table f count → Arena w q ns → x < length ns
    → Drops table f count w x d → b ≡ not d → b ≡ stays p ns x
stays_if pre h lt e z = z ∙ ap not ((e.is pre).is h lt)

-- what a member's kind says of it
abbrev plain : Bool → Bool → Bool → Bool → Bool
plain a b c d = not (a || b || c || d)

abbrev neither : ℕ → Bool
neither k = plain (eqb k 8) (eqb k 0) (eqb k 9) (eqb k 10)

no_filler : (p : rules.Pass) (n : Node) → (kind_of n ≡ 0 → ⊥) → (kind_of n ≡ 9 → ⊥) → (kind_of n ≡ 10 → ⊥) → drops_node p n ≡ false
no_filler p (TyVar x) a b c = absurd (a refl)
no_filler p (Primitive x) a b c = refl
no_filler p (ListOf x) a b c = refl
no_filler p (Lambda x y) a b c = refl
no_filler p (AttrSet t) a b c = refl
no_filler p (Union ms) a b c = refl
no_filler p (Intersection ms) a b c = refl
no_filler p (Named m x) a b c = refl
no_filler p (Neg x) a b c = refl
no_filler p Bottom a b c = absurd (b refl)
no_filler p Top a b c = absurd (c refl)

module _ {w : List ℕ} {x k : ℕ} (a : Kind w x k) where
  positive_by : {r : Bool} → r ≡ neither k → Asks is_positive w x r
  positive_by e = record { is = λ h lt. e ∙ ap neither (a.is h lt) }

  pub concrete_is : {r : Bool} → Constructor k r → Asks is_concrete w x r
  concrete_is c = record { is = λ h lt. c.is ∙ ap (λ (j : ℕ). eqb j 1 || eqb j 4 || eqb j 2 || eqb j 3) (a.is h lt) }

  -- fillers by their kind
  module _ {table : List ℕ} {f count : ℕ} where
    pub drops_bottom : k ≡ 9 → Drops table f count w x true
    drops_bottom e =
        record { is = λ {p} pre. record { is = λ {q} {ns} h lt. sym (by_kind (node_at ns x) (λ (m : Node). drops_node p m ≡ true) 9 (sym (a.is h lt) ∙ e) refl) } }

    pub drops_top : k ≡ 10 → Drops table f count w x true
    drops_top e =
        record { is = λ {p} pre. record { is = λ {q} {ns} h lt. sym (by_kind (node_at ns x) (λ (m : Node). drops_node p m ≡ true) 10 (sym (a.is h lt) ∙ e) refl) } }

    pub drops_other : (k ≡ 9 → ⊥) → (k ≡ 10 → ⊥) → (k ≡ 0 → ⊥) → Drops table f count w x false
    drops_other e g z =
        record {
          is = λ {p} pre.
              record { is = λ {q} {ns} h lt. sym (no_filler p (node_at ns x) (λ y. z (a.is h lt ∙ y)) (λ y. e (a.is h lt ∙ y)) (λ y. g (a.is h lt ∙ y))) };
        }

    module _ {v : ℕ} (e : k ≡ 0) (b : Word w x 1 v) where
      drops_var : {r : Bool} → ((p : rules.Pass) → Preserves p table f count → r ≡ drops_node p (TyVar v)) → Drops table f count w x r
      drops_var g =
          record {
            is = λ {p} pre.
                record {
                  is = λ {q} {ns} h lt.
                      let n = node_at ns x in
                      let z = sym (a.is h lt) ∙ e in
                      let long = by_kind n (λ (m : Node). length (encode m) ≡ 2) 0 z refl in
                      let y : v ≡ get_or (encode n) 1 0 = word_of h b lt (omega arith) in
                      g p pre ∙ ap (λ (j : ℕ). drops_node p (TyVar j)) y ∙ ap (drops_node p) (node_of n 0 z);
                };
          }

      pub drops_past : count ≤ v → Drops table f count w x (leb count v)
      drops_past le =
          drops_var (λ p pre. le-leb count v le ∙ sym (ap (λ (t : Bool). not (both t (λ _. p.preserved v))) (le-ltb v p.count (omega (arith, pre.size)))))

      pub drops_fact : {y c : ℕ} {r : Bool} → v < count → y ≡ f + v → c ≡ cell table y → r ≡ eqb c 0 → Drops table f count w x r
      drops_fact {y} {c} lt z d g =
          drops_var
          (λ p pre.
          g
          ∙ ap (λ (j : ℕ). eqb j 0) (d ∙ ap (cell table) z)
          ∙ sym (not-not (eqb (cell table (f + v)) 0))
          ∙ sym (ap₂ (λ (t u : Bool). not (both t (λ _. u))) (lt-ltb v p.count (omega (arith, pre.size))) (pre.is v lt)))

-- the same by the kind itself
module _ {w : List ℕ} {x : ℕ} {k : OutputTy} (a : Kind w x (code k)) where
  no_by : {j : OutputTy} → neither (code j) ≡ false → k ≡ j → Asks is_positive w x false
  no_by z f = positive_by a (sym (ap (λ (i : OutputTy). neither (code i)) f ∙ z))

  pub positive_no : (k ≡ kinds.Neg) ⊎ ((k ≡ kinds.TyVar) ⊎ ((k ≡ kinds.Bottom) ⊎ (k ≡ kinds.Top))) → Asks is_positive w x false
  positive_no e = ⊎_elim (no_by refl) (λ f. ⊎_elim (no_by refl) (λ g. ⊎_elim (no_by refl) (no_by refl) g) f) e

  pub positive_yes : (k ≡ kinds.Neg → ⊥) → (k ≡ kinds.TyVar → ⊥) → (k ≡ kinds.Bottom → ⊥) → (k ≡ kinds.Top → ⊥) → Asks is_positive w x true
  positive_yes e f g h =
      positive_by a
      (sym
      (λ i. plain (ne_eqb (code k) 8 (other kinds.Neg e) i) (ne_eqb (code k) 0 (other kinds.TyVar f) i) (ne_eqb (code k) 9 (other kinds.Bottom g) i)
      (ne_eqb (code k) 10 (other kinds.Top h) i)))

  pub drops_filler : {table : List ℕ} {f count : ℕ} → (k ≡ kinds.Bottom) ⊎ (k ≡ kinds.Top) → Drops table f count w x true
  drops_filler e = ⊎_elim (λ z. drops_bottom a (ap code z)) (λ z. drops_top a (ap code z)) e

  pub drops_none : {table : List ℕ} {f count : ℕ} → (k ≡ kinds.Bottom → ⊥) → (k ≡ kinds.Top → ⊥) → (k ≡ kinds.TyVar → ⊥) → Drops table f count w x false
  drops_none e f g = drops_other a (other kinds.Bottom e) (other kinds.Top f) (other kinds.TyVar g)
