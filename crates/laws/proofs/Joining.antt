-- Representatives of entries are entries, whatever pairs join them. Assumes nothing.
use mathlib.Core.Path.{◌≡◌, refl, ap, ◌∙◌}
use Prim.Native.Nat.{ℕ, zero, suc, ◌+◌, ◌≤◌, ◌<◌}
use native.Mathlib.Omega.{arith}
use native.Mathlib.Nat.{not-suc-le-zero}
use mathlib.Core.List.{List, [], ◌∷◌}
use lib.ListN.{length, get_or, length-map, get_or-eq_default}
use lib.Dec.{eqb, ltb}
use borrow.Author.Tests.{ltb-true}
use Rattle.rules.specs.Plain.{both}
use Rattle.rules.specs.Table.{Pair, Table, join_classes, rep_in, join_pair, join_pairs, upward, representatives}
use Rattle.laws.proofs.Admitting.{both_parts}
use Rattle.cells.specs.Placed.{Under}
use Rattle.cells.proofs.Choices.{by_branch, by_test}

-- a representative for each of n ids, each below n
record Classes (n : ℕ) (reps : List ℕ) : Type 0 where
  many : length reps ≡ n
  under : Under n reps

element_below : (n : ℕ) (xs : List ℕ) (i d : ℕ) → Under n xs → i < length xs → get_or xs i d < n
element_below n [] i d u lt = absurd (not-suc-le-zero lt)
element_below n (x ∷ xs) zero d u lt = u.0
element_below n (x ∷ xs) (suc i) d u lt = element_below n xs i d u.1 (omega arith)

joined_under : (n : ℕ) (reps : List ℕ) (ra rb : ℕ) → rb < n → Under n reps → Under n (join_classes reps ra rb)
joined_under n [] ra rb h u = tt
joined_under n (r ∷ reps) ra rb h u =
    (by_branch (λ (x : ℕ). x < n) (eqb r ra) (λ _. rb) (λ _. r) h u.0, joined_under n reps ra rb h u.1)

pair_classes : (n : ℕ) (reps : List ℕ) (pair : Pair) → Classes n reps → Classes n (join_pair reps pair)
pair_classes n reps pair c =
    by_test (Classes n) (both (ltb pair.first (length reps)) (λ _. ltb pair.second (length reps))) _ _
    (λ h. let lt = ltb-true pair.second (length reps) (both_parts (ltb pair.first (length reps)) (λ _. ltb pair.second (length reps)) h).1 in
    record {
      many = length-map reps _ ∙ c.many;
      under = joined_under n reps (rep_in reps pair.first) (rep_in reps pair.second)
          (element_below n reps pair.second pair.second c.under lt) c.under;
    })
    (λ h. c)

pairs_classes : (n : ℕ) (reps : List ℕ) (pairs : List Pair) → Classes n reps → Classes n (join_pairs reps pairs)
pairs_classes n reps [] c = c
pairs_classes n reps (p ∷ pairs) c = pairs_classes n (join_pair reps p) pairs (pair_classes n reps p c)

pub upward_length : (a n : ℕ) → length (upward a n) ≡ n
upward_length a zero = refl
upward_length a (suc n) = ap suc (upward_length (suc a) n)

upward_under : (a n k : ℕ) → a + n ≤ k → Under k (upward a n)
upward_under a zero k h = tt
upward_under a (suc n) k h = (omega arith, upward_under (suc a) n k (omega arith))

upward_classes : (n : ℕ) → Classes n (upward 0 n)
upward_classes n = record { many = upward_length 0 n; under = upward_under 0 n n (omega arith) }

classes : (t : Table) → Classes (length t.entries) (representatives t)
unfolding representatives
classes t = let n = length t.entries in pairs_classes n (upward 0 n) t.pairs (upward_classes n)

-- an entry's representative is an entry
pub representative_below : (t : Table) (id : ℕ) → id < length t.entries → rep_in (representatives t) id < length t.entries
representative_below t id lt =
    let c = classes t in
    let m = c.many in
    element_below (length t.entries) (representatives t) id id c.under (omega arith)

-- and what is no entry is its own
pub representative_past : (t : Table) (id : ℕ) → length t.entries ≤ id → rep_in (representatives t) id ≡ id
representative_past t id le = let m = (classes t).many in get_or-eq_default (representatives t) id (omega arith)
