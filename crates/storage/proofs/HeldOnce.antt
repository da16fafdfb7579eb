-- The first of each id held: marks of ids seen, and how they are taken away again. Assumes nothing.
use mathlib.Core.Path.{◌≡◌, refl, sym, ap, ap₂, ◌∙◌, subst}
use mathlib.Core.Bool.{Bool, true, false, not, not-not}
use Prim.Native.Nat.{ℕ, suc, ◌+◌, ◌-◌, ◌≤◌, ◌<◌}
use native.Mathlib.Omega.{arith}
use native.Mathlib.Numerals.{add-one}
use mathlib.Core.List.{List, [], ◌∷◌, ◌++◌, append-nil}
use lib.ListN.{length, get_or, drop, set, length-set, drop_of_length-le}
use lib.Seq.{get_or-set_same, get_or-set_other, drop-cons}
use lib.Dec.{eqb, ltb, leb}
use borrow.Author.Tests.{eqb-true, eqb-false, lt-ltb, ltb-true, ltb-false, leb-true, leb-false}
use Rattle.cells.specs.Part.{cell, if}
use Rattle.cells.proofs.Holding.{holds_at}
use Rattle.layout.specs.Layout.{held_at, seen_at}
use Rattle.rules.specs.Ceilings.{most_entries}
use Rattle.rules.specs.Plain.{contains, add_new, flag}
use Rattle.rules.specs.Members.{add_all}
use Rattle.storage.specs.Helds.{HeldList, only, HoldsIf, Unseen, FirstOfEach, HoldsFirst, Forgets, Deduplicates}
use Rattle.laws.proofs.Filtering.{under_at, under_added}
use Rattle.laws.proofs.Containing.{new_itself, new_other, new_length, flag_zero}
use Rattle.storage.proofs.HeldIds.{held_list, held_ext}
use Rattle.cells.specs.Placed.{Under}

-- `forget` at id i
pub record Forgetting (work₀ : List ℕ) (h n : ℕ) (work : List ℕ) (i : ℕ) : Type 0 where
  pub few : i ≤ n
  pub kept : {xs : List ℕ} {count : ℕ} → HeldList work₀ h n xs → Under count xs → count ≤ most_entries → held_at ≤ h
      → (k : ℕ) → ((v : ℕ) → v < count → k ≡ seen_at + v → ⊥) → cell work k ≡ cell work₀ k
  pub marks : {xs : List ℕ} {count : ℕ} → HeldList work₀ h n xs → Under count xs → count ≤ most_entries → held_at ≤ h → held_at ≤ length work₀
      → ((v : ℕ) → v < count → contains xs v ≡ false → cell work₀ (seen_at + v) ≡ 0) → (v : ℕ) → v < count → contains (drop i xs) v ≡ false → cell work (seen_at + v) ≡ 0

module _ {work₀ : List ℕ} {h n : ℕ} where
  module _ {work work' : List ℕ} {i p b q : ℕ} (f : Forgetting work₀ h n work i) (same : length work ≡ length work₀) (lt : i < n) (e : p ≡ h + i) (get : b ≡ cell work p)
      (at : q ≡ seen_at + b) (put : work' ≡ set work q 0) where
    wiped : work' ≡ set work (seen_at + b) 0
    wiped = put ∙ ap (λ (j : ℕ). set work j 0) at

    module _ {xs : List ℕ} {count : ℕ} (g : HeldList work₀ h n xs) (under : Under count xs) (few : count ≤ most_entries) (high : held_at ≤ h) where
      item : b ≡ get_or xs i 0
      item =
          let size = g.count in
          get ∙ ap (cell work) e ∙ f.kept g under few high (h + i) (λ v less z. omega arith) ∙ holds_at g.holds i (omega arith)

      below : b < count
      below = let size = g.count in let z = under_at count xs i under (omega arith) in let y = item in omega arith

      mark_turn : held_at ≤ length work₀ → ((v : ℕ) → v < count → contains xs v ≡ false → cell work₀ (seen_at + v) ≡ 0)
          → (v : ℕ) → v < count → contains (drop (i + 1) xs) v ≡ false → (r : Bool) → eqb v b ≡ r → cell work' (seen_at + v) ≡ 0
      mark_turn room only v less z true y =
          let x : v ≡ b = eqb-true v b y in
          let l = below in
          ap₂ cell wiped (ap (λ (j : ℕ). seen_at + j) x) ∙ get_or-set_same work (seen_at + b) 0 0 (omega arith)
      mark_turn room only v less z false y =
          let size = g.count in
          let n = eqb-false v b y in
          ap (λ (l : List ℕ). cell l (seen_at + v)) wiped
          ∙ get_or-set_other work (seen_at + b) (seen_at + v) 0 0 (λ o. n (omega arith))
          ∙ f.marks g under few high room only v less
          (ap (λ (l : List ℕ). contains l v) (drop-cons xs i 0 (omega arith))
          ∙ ap (λ (t : Bool). if t (λ _. true) (λ _. contains (drop (suc i) xs) v)) (sym (ap (eqb v) item) ∙ y)
          ∙ sym (ap (λ (j : ℕ). contains (drop j xs) v) (add-one i))
          ∙ z)

      elsewhere : (k : ℕ) → ((v : ℕ) → v < count → k ≡ seen_at + v → ⊥) → cell work' k ≡ cell work₀ k
      elsewhere k other =
          ap (λ (l : List ℕ). cell l k) wiped ∙ get_or-set_other work (seen_at + b) k 0 0 (other b below) ∙ f.kept g under few high k other

    pub forgetting_more : Forgetting work₀ h n work' (i + 1)
    forgetting_more =
        record {
          few = omega arith;
          kept = λ g under few high k other. elsewhere g under few high k other;
          marks = λ g under few high room only v less z. mark_turn g under few high room only v less z (eqb v b) refl;
        }

  pub forgetting_done : {work : List ℕ} {i : ℕ} → Forgetting work₀ h n work i → n ≤ i → Forgets work₀ h n work
  forgetting_done {work} {i} f le =
      record {
        is = λ {xs} {count} g under few high room only.
            let size = g.count in
            record {
              marks = λ v lt. f.marks g under few high room only v lt (ap (λ (l : List ℕ). contains l v) (drop_of_length-le xs {i = i} (omega arith)));
              kept = λ k other. f.kept g under few high k other;
            };
      }

pub first_is : {work w work' : List ℕ} {h k b p x r : ℕ} {kept : Bool} → p ≡ seen_at + b → x ≡ cell work p → w ≡ set work p 1 → kept ≡ not (not (eqb x 0))
    → HoldsIf w h k b kept work' r
    → HoldsFirst work h k b work' r
first_is {work} {w} {work'} {h} {k} {b} {p} {x = x} {r} {kept} e f g z put =
    record {
      is = subst (λ (l : List ℕ). HoldsIf l h k b (eqb (cell work (seen_at + b)) 0) work' r) (g ∙ ap (λ (j : ℕ). set work j 1) e)
          (subst (λ (t : Bool). HoldsIf w h k b t work' r) (z ∙ not-not (eqb x 0) ∙ ap (λ (j : ℕ). eqb j 0) (f ∙ ap (cell work) e)) put);
    }

-- what `first_of_each` has after i ids
pub record FirstsAt (work₀ : List ℕ) (h count : ℕ) (bs work : List ℕ) (k i : ℕ) : Type 0 where
  pub got : List ℕ
  pub list : HeldList work h k got
  pub few : length got ≤ i
  pub rest : add_all got (drop i bs) ≡ add_all [] bs
  pub ahead : (j : ℕ) → h + i ≤ j → cell work j ≡ cell work₀ j
  pub marks : (v : ℕ) → v < count → cell work (seen_at + v) ≡ flag (contains got v)
  pub kept : (j : ℕ) → j < h → ((v : ℕ) → v < count → j ≡ seen_at + v → ⊥) → cell work j ≡ cell work₀ j

pub record Firsting (work₀ : List ℕ) (h n : ℕ) (work : List ℕ) (k i : ℕ) : Type 0 where
  pub few : i ≤ n
  pub small : n ≤ 4294967295
  pub is : {bs : List ℕ} {count : ℕ} → HeldList work₀ h n bs → Under count bs → Unseen work₀ count → held_at ≤ h → h + length bs ≤ length work₀
      → FirstsAt work₀ h count bs work k i

new_only : (got : List ℕ) (x : ℕ) (b : Bool) → got ++ only (not b) x ≡ if b (λ _. got) (λ _. got ++ (x ∷ []))
new_only got x true = append-nil got
new_only got x false = refl

module _ {work₀ : List ℕ} {h n : ℕ} where
  module _ {work work' : List ℕ} {k k' i p b : ℕ} (put : HoldsFirst work h k b work' k') (f : Firsting work₀ h n work k i) (get : b ≡ cell work p) (e : p ≡ h + i) (lt : i < n)
      (same : length work ≡ length work₀) where
    abbrev marked : List ℕ
    marked = set work (seen_at + b) 1

    module _ {bs : List ℕ} {count : ℕ} (g : HeldList work₀ h n bs) (under : Under count bs) (unseen : Unseen work₀ count) (high : held_at ≤ h)
        (room : h + length bs ≤ length work₀) where
      abbrev was : FirstsAt work₀ h count bs work k i
      was = f.is g under unseen high room

      first_item : b ≡ get_or bs i 0
      first_item = let size = g.count in get ∙ ap (cell work) e ∙ was.ahead (h + i) (omega arith) ∙ holds_at g.holds i (omega arith)

      first_below : b < count
      first_below = let size = g.count in let z = under_at count bs i under (omega arith) in let y = first_item in omega arith

      -- a cell that is neither the mark nor the place after those held
      alike : (j : ℕ) → (j ≡ seen_at + b → ⊥) → (j ≡ h + k → ⊥) → cell work' j ≡ cell work j
      alike j m o = put.is.others j o ∙ get_or-set_other work (seen_at + b) j 1 0 m

      held : HeldList work' h k' (add_new was.got b)
      held =
          let size = g.count in
          let l = first_below in
          let few = unseen.few in
          let len = was.few in
          let s : length marked ≡ length work = length-set work (seen_at + b) 1 in
          held_list
          (ap (λ (t : Bool). was.got ++ only t b) (ap (λ (j : ℕ). eqb j 0) (was.marks b l) ∙ flag_zero (contains was.got b)) ∙ new_only was.got b (contains was.got b))
          (put.is.is (held_ext was.list (λ j le less. get_or-set_other work (seen_at + b) j 1 0 (omega arith))) (omega arith) (omega arith))

      first_turn : (v : ℕ) → v < count → (r : Bool) → eqb v b ≡ r → cell work' (seen_at + v) ≡ flag (contains (add_new was.got b) v)
      first_turn v less true y =
          let x : v ≡ b = eqb-true v b y in
          let few = unseen.few in
          ap (λ (j : ℕ). cell work' (seen_at + j)) x
          ∙ put.is.others (seen_at + b) (omega arith)
          ∙ get_or-set_same work (seen_at + b) 1 0 (omega arith)
          ∙ sym (ap flag (new_itself was.got b))
          ∙ sym (ap (λ (j : ℕ). flag (contains (add_new was.got b) j)) x)
      first_turn v less false y =
          let few = unseen.few in
          let n = eqb-false v b y in
          alike (seen_at + v) (λ o. n (omega arith)) (omega arith) ∙ was.marks v less ∙ sym (ap flag (new_other was.got b v n))

      now : FirstsAt work₀ h count bs work' k' (i + 1)
      now =
          let size = g.count in
          let l = first_below in
          let few = unseen.few in
          let len = was.few in
          let cnt = was.list.count in
          record {
            got = add_new was.got b;
            list = held;
            few = omega (arith, new_length was.got b);
            rest =
                ap₂ (λ (x : ℕ) (j : ℕ). add_all (add_new was.got x) (drop j bs)) first_item (add-one i)
                ∙ sym (ap (add_all was.got) (drop-cons bs i 0 (omega arith)))
                ∙ was.rest;
            ahead = λ j le. alike j (omega arith) (omega arith) ∙ was.ahead j (omega arith);
            marks = λ v less. first_turn v less (eqb v b) refl;
            kept = λ j less other. alike j (other b l) (omega arith) ∙ was.kept j less other;
          }

    pub firsting_more : Firsting work₀ h n work' k' (i + 1)
    firsting_more = record { few = omega arith; small = f.small; is = λ g under unseen high room. now g under unseen high room }

-- a cell marks one of count ids, or it does not
module _ (count : ℕ) (P : ℕ → Type 0) (yes : (v : ℕ) → v < count → P (seen_at + v)) (j : ℕ) (no : ((v : ℕ) → v < count → j ≡ seen_at + v → ⊥) → P j) where
  mark_cases : (a b : Bool) → leb seen_at j ≡ a → ltb (j - seen_at) count ≡ b → P j
  mark_cases true true e f =
      let x = leb-true seen_at j e in
      let z : seen_at + (j - seen_at) ≡ j = omega arith in
      subst P z (yes (j - seen_at) (ltb-true (j - seen_at) count f))
  mark_cases true false e f = let x = leb-true seen_at j e in let y = ltb-false (j - seen_at) count f in no (λ v lt z. omega arith)
  mark_cases false b e f = let x = leb-false seen_at j e in no (λ v lt z. omega arith)

  by_mark : P j
  by_mark = mark_cases (leb seen_at j) (ltb (j - seen_at) count) refl refl

module _ {work : List ℕ} {h n : ℕ} where
  pub dedup_many : {w work' : List ℕ} {k : ℕ} → 16 < n → FirstOfEach work h n w k → length w ≡ length work → Forgets w h k work' → Deduplicates work h n work' k
  dedup_many {w} {work'} {k} gt first same forget =
      record {
        is = λ {bs} {count} g under unseen high room.
            let size = g.count in
            let few = unseen.few in
            let a = first.is g under unseen high room in
            let b = forget.is a.list (under_added count [] bs tt under) unseen.few high (omega arith) (λ v lt z. a.marks v lt ∙ ap flag z) in
            record {
              list =
                  held_list (sym (ap (λ (t : Bool). if t (λ _. add_all [] bs) (λ _. bs)) (lt-ltb 16 (length bs) (omega arith))))
                  (held_ext a.list (λ j le lt. b.kept j (λ v less z. omega arith)));
              kept = λ j.
                  by_mark count (λ (i : ℕ). i < h → cell work' i ≡ cell work i) (λ v lt less. b.marks v lt ∙ sym (unseen.is v lt)) j
                  (λ other less. b.kept j other ∙ a.kept j less other);
            };
      }
