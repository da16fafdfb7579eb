-- Members collected without duplicates, as many as fit. Assumes nothing.
use mathlib.Core.Path.{◌≡◌, refl, sym, ap, ap₂, ◌∙◌, subst}
use mathlib.Core.Bool.{Bool, true, false, not}
use mathlib.Core.Logic.{⊎_elim}
use Prim.Native.Nat.{ℕ, ◌+◌, ◌-◌, ◌≤◌, ◌<◌}
use native.Mathlib.Omega.{arith}
use native.Mathlib.Nat.{eq-zero-or-pos}
use native.Mathlib.Numerals.{add-one}
use mathlib.Core.List.{List, [], ◌∷◌, ◌++◌}
use lib.ListN.{length, get_or, take, set, replicate, length-set, length-append, length-replicate}
use lib.Seq.{take-suc, take_all}
use lib.Dec.{ltb}
use borrow.Author.Tests.{le-ltb, lt-ltb}
use Rattle.cells.specs.Part.{cell, part, if}
use Rattle.rules.specs.Ceilings.{most_members}
use Rattle.rules.specs.Plain.{any, contains, add_new, both}
use Rattle.rules.specs.Types.{Node, is}
use Rattle.rules.specs.Members.{members_at, add_all, flatten_one, flatten_into, flatten_composite}
use Rattle.lang_ty.specs.declared.arena.Pass.{Pass}
use Rattle.lang_ty.specs.Nodes.{Arena, Is, Count, Member}
use Rattle.members.specs.declared.lists.Members.{Members}
use Rattle.members.specs.Lists.{Few, Lists, Taken, Tests, Contains, any_of_kind, first_of}
use Rattle.members.specs.Flattens.{Collected, AddsNew, AddsMembers, FlattensOne, Listing, Spreads, flatten_all}
use Rattle.laws.proofs.Filtering.{under_added}
use Rattle.laws.proofs.Rooting.{members_below}
use Rattle.members.proofs.Gathered.{few_lists, few_at, few_below, gathered_more, gathered_few}
use Rattle.cells.specs.Placed.{Under}

-- laws of collecting
new_length : (b : Bool) (xs : List ℕ) (x : ℕ) → length xs ≤ length (if b (λ _. xs) (λ _. xs ++ (x ∷ [])))
new_length true xs x = omega arith
new_length false xs x = omega (arith, length-append xs (x ∷ []))

all_snoc : (got xs : List ℕ) (y : ℕ) → add_all got (xs ++ (y ∷ [])) ≡ add_new (add_all got xs) y
all_snoc got [] y = refl
all_snoc got (x ∷ xs) y = all_snoc (add_new got x) xs y

into_snoc : (k : ℕ) (ns : List Node) (got xs : List ℕ) (y : ℕ) → flatten_into k ns got (xs ++ (y ∷ [])) ≡ flatten_one k ns (flatten_into k ns got xs) y
into_snoc k ns got [] y = refl
into_snoc k ns got (x ∷ xs) y = into_snoc k ns (flatten_one k ns got x) xs y

-- what is collected are nodes
module _ {w : List ℕ} {q : Pass} {ns : List Node} (h : Arena w q ns) (kind : ℕ) where
  one_under : (b : Bool) (got : List ℕ) (x : ℕ) → x < length ns → Under (length ns) got
      → Under (length ns) (if b (λ _. add_all got (members_at ns x)) (λ _. add_new got x))
  one_under true got x lt g = under_added (length ns) got (members_at ns x) g (members_below ns x (record { is = h.below }))
  one_under false got x lt g = under_added (length ns) got (x ∷ []) g (lt, tt)

  into_under : (got xs : List ℕ) → Under (length ns) got → Under (length ns) xs → Under (length ns) (flatten_into kind ns got xs)
  into_under got [] g u = g
  into_under got (x ∷ xs) g u = into_under (flatten_one kind ns got x) xs (one_under (is ns kind x) got x u.0 g) u.1

-- a list of no more than 128, or of more
pub by_length : {A : Type 0} (xs : List ℕ) → (length xs ≤ most_members → A) → (most_members < length xs → A) → A
by_length xs f g = ⊎_elim (λ e. f (omega arith)) (λ e. g (omega arith)) (eq-zero-or-pos (length xs - most_members))

collected_none : Collected (replicate most_members 0) 0 []
collected_none =
    record {
      room = length-replicate {A = ℕ} most_members 0;
      list = few_lists (record { count = refl; holds = record { is = refl }; few = omega arith });
    }

-- what was collected fits where k does
fits : {out xs : List ℕ} {k : ℕ} → Collected out k xs → k ≤ most_members → Few (first_of k out) xs
fits {xs = xs} c le = by_length xs c.list.fit (λ h. let z = c.list.many h in absurd (omega arith))

module _ {out : List ℕ} {k x : ℕ} where
  found : {xs : List ℕ} {b : Bool} → Few (first_of k out) xs → Contains out k x b → b ≡ contains xs x
  found {xs} f c = c.is ∙ ap (λ (l : List ℕ). contains l x) (ap (part out 0) f.count ∙ f.holds.is)

  pub new_full : most_members < k → AddsNew out k x out k
  new_full h =
      record {
        is = λ {xs} c.
            record {
              room = c.room;
              list = record {
                fit = λ z. let y = c.list.fit (omega (arith, new_length (contains xs x) xs x)) in let e = y.count in let f = y.few in absurd (omega arith);
                many = λ z. h;
              };
            };
      }

  pub new_there : {b : Bool} → k ≤ most_members → Contains out k x b → b ≡ true → AddsNew out k x out k
  new_there le g e =
      record {
        is = λ {xs} c.
            subst (λ (l : List ℕ). Collected out k l) (ap (λ (t : Bool). if t (λ _. xs) (λ _. xs ++ (x ∷ []))) (sym e ∙ found (fits c le) g)) c;
      }

  pub new_here : {out' : List ℕ} {b : Bool} → k ≤ most_members → Contains out k x b → b ≡ false → out' ≡ set out k x → AddsNew out k x out' (k + 1)
  new_here {out'} le g e f =
      record {
        is = λ {xs} c.
            let few = fits c le in
            let n = few.count in
            let long = length-append xs (x ∷ []) in
            subst (λ (l : List ℕ). Collected out' (k + 1) l) (ap (λ (t : Bool). if t (λ _. xs) (λ _. xs ++ (x ∷ []))) (sym e ∙ found few g))
            (record {
              room = ap length f ∙ length-set out k x ∙ c.room;
              list = record {
                fit = λ z.
                    gathered_few
                    (gathered_more x (record { count = n; holds = few.holds; room = c.room }) (omega arith) f (record { is = λ y. refl; full = λ y. omega arith }))
                    z;
                many = λ z. omega arith;
              };
            });
      }

-- `add_members` at member i of node x
pub record Adding (w out₀ : List ℕ) (k x n : ℕ) (out : List ℕ) (got i : ℕ) : Type 0 where
  pub few : i ≤ n
  pub is : {q : Pass} {ns : List Node} {xs : List ℕ} → Arena w q ns → x < length ns → Collected out₀ k xs → Collected out got (add_all xs (take i (members_at ns x)))

module _ {w out₀ : List ℕ} {k x n : ℕ} where
  pub adding_start : Adding w out₀ k x n out₀ k 0
  adding_start = record { few = omega arith; is = λ h lt c. c }

  pub adding_more : {out out' : List ℕ} {got got' i y : ℕ} → Count w x n → Adding w out₀ k x n out got i → i < n → Member w x i y → AddsNew out got y out' got'
      → Adding w out₀ k x n out' got' (i + 1)
  adding_more {out' = out'} {got' = got'} {i = i} {y = y} count c lt member g =
      record {
        few = omega arith;
        is = λ {q} {ns} {xs} h le d.
            let ms = members_at ns x in
            let size = count.is h le in
            subst (λ (l : List ℕ). Collected out' got' l)
            (ap (add_new (add_all xs (take i ms))) (member.is h le (omega arith))
            ∙ sym (ap (λ (j : ℕ). add_all xs (take j ms)) (add-one i) ∙ ap (add_all xs) (take-suc ms i 0 (omega arith)) ∙ all_snoc xs (take i ms) (get_or ms i 0)))
            (g.is (c.is h le d));
      }

  pub adding_done : {out : List ℕ} {got i : ℕ} → Count w x n → Adding w out₀ k x n out got i → n ≤ i → AddsMembers w out₀ k x out got
  adding_done {out} {got} {i} count c le =
      record {
        is = λ {q} {ns} {xs} h lt d.
            subst (λ (l : List ℕ). Collected out got (add_all xs l)) (take_all i (members_at ns x) (omega (arith, count.is h lt))) (c.is h lt d);
      }

module _ {kind k x r : ℕ} {w out out' : List ℕ} {b : Bool} (a : Is w kind x b) where
  pub one_nested : b ≡ true → AddsMembers w out k x out' r → FlattensOne kind w out k x out' r
  one_nested e g =
      record {
        is = λ {q} {ns} {xs} h lt c.
            subst (λ (t : Bool). Collected out' r (if t (λ _. add_all xs (members_at ns x)) (λ _. add_new xs x))) (sym e ∙ a.is h lt) (g.is h lt c);
      }

  pub one_plain : b ≡ false → AddsNew out k x out' r → FlattensOne kind w out k x out' r
  one_plain e g =
      record {
        is = λ {q} {ns} {xs} h lt c.
            subst (λ (t : Bool). Collected out' r (if t (λ _. add_all xs (members_at ns x)) (λ _. add_new xs x))) (sym e ∙ a.is h lt) (g.is c);
      }

-- `flatten_all` at member i
pub record Flattening (kind : ℕ) (w ms : List ℕ) (n : ℕ) (out : List ℕ) (k i : ℕ) : Type 0 where
  pub few : i ≤ n
  pub is : {q : Pass} {ns : List Node} {xs : List ℕ} → Arena w q ns → Taken (first_of n ms) xs (length ns) → Collected out k (flatten_into kind ns [] (take i xs))

module _ {kind : ℕ} {w ms : List ℕ} {n : ℕ} where
  pub flattening_start : Flattening kind w ms n (replicate most_members 0) 0 0
  flattening_start = record { few = omega arith; is = λ h m. collected_none }

  pub flattening_more : {out out' : List ℕ} {k k' i x : ℕ} → Flattening kind w ms n out k i → i < n → x ≡ cell ms i → FlattensOne kind w out k x out' k'
      → Flattening kind w ms n out' k' (i + 1)
  flattening_more {out' = out'} {k' = k'} {i = i} {x = x} c lt e g =
      record {
        few = omega arith;
        is = λ {q} {ns} {xs} h m.
            let size = m.list.count in
            let got = flatten_into kind ns [] (take i xs) in
            subst (λ (l : List ℕ). Collected out' k' l)
            (ap (flatten_one kind ns got) (few_at m.list e lt)
            ∙ sym (ap (λ (j : ℕ). flatten_into kind ns [] (take j xs)) (add-one i) ∙ ap (flatten_into kind ns []) (take-suc xs i 0 (omega arith)) ∙ into_snoc kind ns [] (take i xs) (get_or xs i 0)))
            (g.is h (few_below m e lt) (c.is h m));
      }

  pub flattening_done : {out : List ℕ} {k i : ℕ} → Flattening kind w ms n out k i → n ≤ i → Spreads (flatten_all kind) w (first_of n ms) (first_of k out)
  flattening_done {out} {k} {i} c le =
      record {
        is = λ {q} {ns} {xs} h m.
            record {
              list = subst (λ (l : List ℕ). Lists (first_of k out) (flatten_into kind ns [] l)) (take_all i xs (omega (arith, m.list.count))) (c.is h m).list;
              below = into_under h kind [] xs tt m.below;
            };
      }

-- the ways of `flatten_composite`
both_none : (b : Bool) → both b (λ _. false) ≡ false
both_none true = refl
both_none false = refl

abbrev way : ℕ → List Node → List ℕ → Bool → Bool → List ℕ
way kind ns xs nested many = if (both (not nested) (λ _. many)) (λ _. xs) (λ _. flatten_into kind ns [] xs)

module _ (kind : ℕ) {w : List ℕ} {m : Members} where
  pub flat_few : {r : Members} → m.count ≤ 64 → Spreads (flatten_all kind) w m r → Spreads (flatten_composite kind) w m r
  unfolding flatten_composite
  flat_few {r} le g =
      record {
        is = λ {q} {ns} {xs} h t.
            subst (λ (l : List ℕ). Listing r l (length ns))
            (sym (ap (way kind ns xs (any (is ns kind) xs)) (le-ltb 64 (length xs) (omega (arith, t.list.count)))
            ∙ ap (λ (b : Bool). if b (λ _. xs) (λ _. flatten_into kind ns [] xs)) (both_none (not (any (is ns kind) xs)))))
            (g.is h t);
      }

  module _ {c : Bool} (a : Tests (any_of_kind kind) w m c) where
    pub flat_nested : {r : Members} → c ≡ true → Spreads (flatten_all kind) w m r → Spreads (flatten_composite kind) w m r
    unfolding flatten_composite
    flat_nested {r} e g =
        record {
          is = λ {q} {ns} {xs} h t.
              subst (λ (l : List ℕ). Listing r l (length ns)) (ap (λ (b : Bool). way kind ns xs b (ltb 64 (length xs))) (sym e ∙ a.is h t)) (g.is h t);
        }

    pub flat_plain : 64 < m.count → c ≡ false → Spreads (flatten_composite kind) w m m
    unfolding flatten_composite
    flat_plain lt e =
        record {
          is = λ {q} {ns} {xs} h t.
              subst (λ (l : List ℕ). Listing m l (length ns))
              (sym (ap₂ (way kind ns xs) (sym (a.is h t) ∙ e) (lt-ltb 64 (length xs) (omega (arith, t.list.count)))))
              (record { list = few_lists t.list; below = t.below });
        }
