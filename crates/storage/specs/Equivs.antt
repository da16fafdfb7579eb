-- EquivDsu: what the functions of equiv.rt ensure.
use Rattle.std.specs.Prelude.{◌≡◌, ℕ, zero, suc, ◌+◌, ◌≤◌, ◌<◌, List, length, eqb}
use Rattle.cells.specs.Part.{cell, part, run}
use Rattle.rules.specs.Plain.{flag}
use Rattle.rules.specs.Table.{Pair, upward, join_pair, join_pairs}
use Rattle.storage.specs.Passes.{rep_of}

pub record Rep (reps : List ℕ) (count id r : ℕ) : Type 0 where
  pub is : r ≡ rep_of reps count id

-- each id's parent is an id
pub record Inside (parent : List ℕ) (count : ℕ) : Type 0 where
  pub is : (i : ℕ) → i < count → cell parent i < count

-- the parents of ids are ids still, and no other cell changed
pub record Stays (parent : List ℕ) (count : ℕ) (parent' : List ℕ) : Type 0 where
  pub inside : Inside parent' count
  pub kept : (k : ℕ) → count ≤ k → cell parent' k ≡ cell parent k

-- how many of the n ids are their own representatives
abbrev pub roots : (ℕ → ℕ) → ℕ → ℕ
roots f zero = 0
roots f (suc n) = flag (eqb (f n) n) + roots f n

-- each id's chain of parents ends at its representative; its length and the number of representatives together are at most the count
pub record Forest (parent : List ℕ) (count : ℕ) (reps : List ℕ) : Type 0 where
  pub room : count ≤ length parent
  pub whole : length reps ≡ count
  pub inside : (i : ℕ) → i < count → cell parent i < count
  pub above : (i : ℕ) → i < count → cell reps (cell parent i) ≡ cell reps i
  pub known : (i : ℕ) → i < count → cell reps i < count
  pub root : (i : ℕ) → i < count → cell parent (cell reps i) ≡ cell reps i
  pub own : (i : ℕ) → i < count → cell parent i ≡ i → cell reps i ≡ i
  pub depth : ℕ → ℕ
  pub down : (i : ℕ) → i < count → (cell parent i ≡ i → ⊥) → depth (cell parent i) < depth i
  pub flat : (i : ℕ) → i < count → cell parent i ≡ i → depth i ≡ 0
  pub deep : (i : ℕ) → i < count → depth i + roots (cell reps) count ≤ count

-- id's representative r; what was a representative's child stays one
pub record Found (count id : ℕ) (parent reps parent' : List ℕ) (r : ℕ) : Type 0 where
  pub forest : Forest parent' count reps
  pub is : r ≡ cell reps id
  pub settled : (k : ℕ) → k < count → cell parent k ≡ cell reps k → cell parent' k ≡ cell reps k

pub record Finds (parent : List ℕ) (count id : ℕ) (parent' : List ℕ) (r : ℕ) : Type 0 where
  pub stays : Inside parent count → id < count → Stays parent count parent'
  pub below : Inside parent count → id < count → r < count
  pub is : {reps : List ℕ} → Forest parent count reps → id < count → Found count id parent reps parent' r

pub record Unites (parent : List ℕ) (count a b : ℕ) (parent' : List ℕ) : Type 0 where
  pub stays : Inside parent count → Stays parent count parent'
  pub is : {reps : List ℕ} → Forest parent count reps → Forest parent' count (join_pair reps (record { first = a; second = b }))

-- each id is its own representative
pub record Alone (parent : List ℕ) (count : ℕ) (parent' : List ℕ) : Type 0 where
  pub stays : Stays parent count parent'
  pub is : count ≤ length parent → Forest parent' count (upward 0 count)

-- each id's parent is its representative
pub record Settles (parent : List ℕ) (count : ℕ) (parent' : List ℕ) : Type 0 where
  pub stays : Inside parent count → Stays parent count parent'
  pub is : {reps : List ℕ} → Forest parent count reps → part parent' 0 count ≡ reps

-- pair i is the second and the third word of the row that begins where place first + i tells
abbrev pub pair_at : List ℕ → ℕ → Pair
pair_at table i = record { first = cell table (cell table i + 1); second = cell table (cell table i + 2) }

abbrev pub pairs_in : List ℕ → ℕ → ℕ → List Pair
pairs_in table first n = run (pair_at table) first n

-- the pairs lie after the parents
pub record Behind (table : List ℕ) (count first pairs : ℕ) : Type 0 where
  pub places : count ≤ first
  pub rows : (i : ℕ) → i < pairs → count ≤ cell table (first + i)

pub record UnitesAll (table : List ℕ) (count first pairs : ℕ) (table' : List ℕ) : Type 0 where
  pub stays : Inside table count → Stays table count table'
  pub is : {reps : List ℕ} → Forest table count reps → Behind table count first pairs → Forest table' count (join_pairs reps (pairs_in table first pairs))

-- each id's representative, pairs in order; no other cell changes
pub record Represents (table : List ℕ) (count first pairs : ℕ) (table' : List ℕ) : Type 0 where
  pub is : count ≤ length table → Behind table count first pairs → part table' 0 count ≡ join_pairs (upward 0 count) (pairs_in table first pairs)
  pub kept : (k : ℕ) → count ≤ k → cell table' k ≡ cell table k
