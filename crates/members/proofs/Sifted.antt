-- The loops of `sift` and `any_from`: members gathered or searched by what is answered of each. Assumes nothing.
use mathlib.Core.Path.{◌≡◌, refl, sym, ap, ap₂, ◌∙◌}
use mathlib.Core.Bool.{Bool, true, false}
use Prim.Native.Nat.{ℕ, ◌+◌, ◌≤◌, ◌<◌}
use native.Mathlib.Omega.{arith}
use native.Mathlib.Numerals.{add-one}
use mathlib.Core.List.{List, ◌++◌}
use lib.ListN.{get_or, take, drop, replicate, length-replicate}
use lib.Seq.{take_all, length-take-le}
use Rattle.cells.specs.Part.{cell}
use Rattle.rules.specs.Ceilings.{most_members}
use Rattle.rules.specs.Plain.{any, filter}
use Rattle.laws.proofs.Filtering.{kept, filter_take, filter_length, filter_under, any_here, any_more, any_done}
use Rattle.members.specs.Lists.{Taken, first_of, Gathered, KeepsIf, SiftsBy, AnyBy}
use Rattle.members.proofs.Gathered.{few_at, few_below, gathered_none, gathered_list, gathered_few, kept_only}

-- what is answered of a member below t is what f says
abbrev pub Says : (ℕ → Bool → Type 0) → (ℕ → Bool) → ℕ → Type 0
Says Answered f t = (x : ℕ) (b : Bool) → x < t → Answered x b → b ≡ f x

-- at member i of ms
pub record Sifting (Answered : ℕ → Bool → Type 0) (ms : List ℕ) (n : ℕ) (out : List ℕ) (k i : ℕ) : Type 0 where
  pub is : {xs : List ℕ} {t : ℕ} (f : ℕ → Bool) → Taken (first_of n ms) xs t → Says Answered f t → Gathered out k (filter f (take i xs))

pub record Searching (Answered : ℕ → Bool → Type 0) (ms : List ℕ) (from n i : ℕ) : Type 0 where
  pub is : {xs : List ℕ} {t : ℕ} (f : ℕ → Bool) → Taken (first_of n ms) xs t → Says Answered f t → any f (drop i xs) ≡ any f (drop from xs)

module _ {Answered : ℕ → Bool → Type 0} {ms : List ℕ} {n : ℕ} where
  says : {i x t : ℕ} {b : Bool} {xs : List ℕ} (f : ℕ → Bool) → i < n → x ≡ cell ms i → Answered x b → Taken (first_of n ms) xs t → Says Answered f t → b ≡ f (get_or xs i 0)
  says {x = x} {b = b} f lt e a m s = s x b (few_below m e lt) a ∙ ap f (few_at m.list e lt)

  pub sifting_start : Sifting Answered ms n (replicate most_members 0) 0 0
  sifting_start = record { is = λ f m s. gathered_none (length-replicate {A = ℕ} most_members 0) }

  pub sifting_more : {out out' : List ℕ} {k k' i x : ℕ} {b : Bool} → Sifting Answered ms n out k i → i < n → x ≡ cell ms i → Answered x b → KeepsIf out k x b out' k'
      → Sifting Answered ms n out' k' (i + 1)
  sifting_more {i = i} {x = x} {b = b} c lt e a g =
      record {
        is = λ {xs} f m s.
            let size = m.list.count in
            let l = filter_length f (take i xs) in
            let z = length-take-le i xs (omega arith) in
            gathered_list
            (ap (λ (l : List ℕ). filter f (take i xs) ++ l) (kept_only b x ∙ ap₂ kept (says f lt e a m s) (few_at m.list e lt))
            ∙ sym (ap (λ (j : ℕ). filter f (take j xs)) (add-one i) ∙ filter_take f xs i (omega arith)))
            (g.is (c.is f m s) (omega (arith, m.list.few)));
      }

  pub sifting_done : {out : List ℕ} {k i : ℕ} → Sifting Answered ms n out k i → n ≤ i → SiftsBy Answered (first_of n ms) (first_of k out)
  sifting_done {i = i} c le =
      record {
        is = λ {xs} {k} f m s.
            record {
              list =
                  gathered_few
                  (gathered_list (ap (filter f) (take_all i xs (omega (arith, m.list.count)))) (c.is f m s))
                  (omega (arith, filter_length f xs, m.list.few));
              below = filter_under f k xs m.below;
            };
      }

  module _ {from : ℕ} where
    pub searching_start : Searching Answered ms from n from
    searching_start = record { is = λ f m s. refl }

    module _ {i x : ℕ} {b : Bool} (c : Searching Answered ms from n i) (lt : i < n) (e : x ≡ cell ms i) (a : Answered x b) where
      pub searching_here : b ≡ true → AnyBy Answered (first_of n ms) from true
      searching_here z = record { is = λ {xs} f m s. any_here f xs i (c.is f m s) (omega (arith, m.list.count)) (sym z ∙ says f lt e a m s) }

      pub searching_more : b ≡ false → Searching Answered ms from n (i + 1)
      searching_more z = record { is = λ {xs} f m s. any_more f xs i (c.is f m s) (omega (arith, m.list.count)) (sym z ∙ says f lt e a m s) }

    pub searching_done : {i : ℕ} → Searching Answered ms from n i → n ≤ i → AnyBy Answered (first_of n ms) from false
    searching_done {i} c le = record { is = λ {xs} f m s. any_done f xs i (c.is f m s) (omega (arith, m.list.count)) }
