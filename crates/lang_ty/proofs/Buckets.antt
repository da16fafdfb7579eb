-- A row's hash, word by word, and what a link does to the index. Assumes nothing.
use mathlib.Core.Path.{◌≡◌, refl, sym, ap, ap₂, ◌∙◌}
use mathlib.Core.Bool.{Bool, true, false}
use Prim.Native.Nat.{ℕ, zero, suc, ◌+◌, ◌-◌, ◌≤◌, ◌<◌}
use native.Mathlib.Omega.{arith}
use mathlib.Core.List.{List, [], ◌∷◌, ◌++◌}
use lib.ListN.{length, set, length-set, length-append}
use lib.Seq.{get_or-set_same, get_or-set_other}
use lib.Dec.{eqb}
use borrow.Author.Tests.{eqb-true, eqb-false, le-ltb}
use Rattle.cells.specs.Part.{cell, part, if}
use Rattle.cells.specs.Sum.{Sum}
use Rattle.cells.proofs.Parts.{run_whole, run_next, run_none}
use Rattle.layout.specs.Layout.{earlier_at, hashes_at, newest_at, buckets, arena_words, arena_length}
use Rattle.rules.specs.Ceilings.{most_nodes}
use Rattle.rules.specs.Types.{Node, encode, node_at}
use Rattle.laws.specs.Indexed.{bucket_at, newest, in_bucket}
use Rattle.laws.proofs.Indexing.{newest_alike}
use Rattle.laws.proofs.Storing.{by_place, node_before, node_last}
use Rattle.lang_ty.specs.Buckets.{mixed, hash_from, hash, bucket_of, bucket, link_of, follow, Indexed, Mixed, Hashed, BucketPlace, Newest, Linked}

-- `hash` at word i: what is left to take in comes to the whole
pub record Hashing (w : List ℕ) (a n h i : ℕ) : Type 0 where
  pub few : i ≤ n
  pub is : hash_from h (part w (a + i) (n - i)) ≡ hash_from 0 (part w a n)

module _ {w : List ℕ} {a n : ℕ} where
  pub hashing_start : Hashing w a n 0 0
  hashing_start = record { few = omega arith; is = ap (hash_from 0) (run_whole (cell w) a n) }

  module _ {h i : ℕ} (c : Hashing w a n h i) where
    pub hashing_more : {p x h' : ℕ} → p ≡ a + i → x ≡ cell w p → Mixed h x h' → i < n → Hashing w a n h' (i + 1)
    hashing_more e f m lt =
        record {
          few = omega arith;
          is =
              ap (λ (g : ℕ). hash_from g (part w (a + (i + 1)) (n - (i + 1)))) (m.is ∙ ap (mixed h) (f ∙ ap (cell w) e))
              ∙ sym (ap (hash_from h) (run_next (cell w) a n i lt)) ∙ c.is;
        }

    pub hashing_done : n ≤ i → Hashed w a n h
    unfolding hash
    hashing_done le = record { is = sym (ap (hash_from h) (run_none (cell w) a n i le)) ∙ c.is }

hash_low : (h : ℕ) (xs : List ℕ) → h < 4294967296 → hash_from h xs < 4294967296
hash_low h [] lt = lt
hash_low h (x ∷ xs) lt = hash_low (mixed h x) xs (omega arith)

pub bucket_low : {h : ℕ} (row : List ℕ) → h ≡ hash row → bucket_of h < buckets
unfolding hash
bucket_low row e = let lt = hash_low 0 row (omega arith) in omega arith

pub newest_read : {w : List ℕ} {h p r : ℕ} → BucketPlace h p → r ≡ cell w p → Newest w h r
newest_read {w} e f = record { is = f ∙ ap (cell w) e.is }

pub linked_is : {w w₁ w₂ w₃ : List ℕ} {h x i p q s t : ℕ} → Newest w h i → p ≡ earlier_at + x → w₁ ≡ set w p i → q ≡ hashes_at + x → w₂ ≡ set w₁ q h
    → BucketPlace h s → Sum earlier_at x t → w₃ ≡ set w₂ s t → Linked w h x w₃
linked_is {w} {w₁} {w₂} {w₃} {h} {x} {i} {p} {q} {s} {t} n e f e' f' at sum g =
    record {
      is = λ lt.
          let first = f ∙ ap₂ (λ (k v : ℕ). set w k v) e n.is in
          let second = f' ∙ ap₂ (λ (l : List ℕ) (k : ℕ). set l k h) first e' in
          g ∙ ap₂ (λ (k v : ℕ). set w₂ k v) at.is (sum.is (omega arith)) ∙ ap (λ (l : List ℕ). set l (newest_at + bucket_of h) (earlier_at + x)) second;
    }

-- w' is w with node x, whose row has hash h and ends at end
pub record Joined (w : List ℕ) (h x end : ℕ) (w' : List ℕ) : Type 0 where
  pub same_length : length w' ≡ length w
  pub ends : cell w' (x + 1) ≡ end
  pub earlier_is : cell w' (earlier_at + x) ≡ cell w (newest_at + bucket_of h)
  pub hash_is : cell w' (hashes_at + x) ≡ h
  pub newest_is : cell w' (newest_at + bucket_of h) ≡ link_of (suc x)
  pub other : (k : ℕ) → (k ≡ x + 1 → ⊥) → (k ≡ earlier_at + x → ⊥) → (k ≡ hashes_at + x → ⊥) → (k ≡ newest_at + bucket_of h → ⊥) → cell w' k ≡ cell w k

module _ (w : List ℕ) (end : ℕ) {w₁ w₂ : List ℕ} {h x p : ℕ} (e : p ≡ x + 1) (f : w₁ ≡ set w p end) (l : Linked w₁ h x w₂) (few : x < most_nodes) (low : bucket_of h < buckets)
    (room : arena_length ≤ length w) where
  abbrev place_of_bucket : ℕ
  place_of_bucket = newest_at + bucket_of h

  abbrev with_link : List ℕ
  with_link = set w₁ (earlier_at + x) (cell w₁ place_of_bucket)

  abbrev with_hash : List ℕ
  with_hash = set with_link (hashes_at + x) h

  ended : w₁ ≡ set w (x + 1) end
  ended = f ∙ ap (λ (k : ℕ). set w k end) e

  size : length w₁ ≡ length w
  size = ap length ended ∙ length-set w (x + 1) end

  size_link : length with_link ≡ length w
  size_link = length-set w₁ (earlier_at + x) (cell w₁ place_of_bucket) ∙ size

  size_hash : length with_hash ≡ length w
  size_hash = length-set with_link (hashes_at + x) h ∙ size_link

  -- each of the four writes leaves the other cells
  but_end : (k : ℕ) → (k ≡ x + 1 → ⊥) → cell w₁ k ≡ cell w k
  but_end k z = ap (λ (m : List ℕ). cell m k) ended ∙ get_or-set_other w (x + 1) k end 0 z

  but_link : (k : ℕ) → (k ≡ earlier_at + x → ⊥) → cell with_link k ≡ cell w₁ k
  but_link k z = get_or-set_other w₁ (earlier_at + x) k (cell w₁ place_of_bucket) 0 z

  but_hash : (k : ℕ) → (k ≡ hashes_at + x → ⊥) → cell with_hash k ≡ cell with_link k
  but_hash k z = get_or-set_other with_link (hashes_at + x) k h 0 z

  but_bucket : (k : ℕ) → (k ≡ place_of_bucket → ⊥) → cell w₂ k ≡ cell with_hash k
  but_bucket k z = ap (λ (m : List ℕ). cell m k) (l.is few) ∙ get_or-set_other with_hash place_of_bucket k (link_of (suc x)) 0 z

  pub joined : Joined w h x end w₂
  joined =
      record {
        same_length = ap length (l.is few) ∙ length-set with_hash place_of_bucket (link_of (suc x)) ∙ size_hash;
        ends =
            but_bucket (x + 1) (λ z. omega arith) ∙ but_hash (x + 1) (λ z. omega arith) ∙ but_link (x + 1) (λ z. omega arith)
            ∙ ap (λ (m : List ℕ). cell m (x + 1)) ended ∙ get_or-set_same w (x + 1) end 0 (omega arith);
        earlier_is =
            but_bucket (earlier_at + x) (λ z. omega arith) ∙ but_hash (earlier_at + x) (λ z. omega arith)
            ∙ get_or-set_same w₁ (earlier_at + x) (cell w₁ place_of_bucket) 0 (omega (arith, size)) ∙ but_end place_of_bucket (λ z. omega arith);
        hash_is = but_bucket (hashes_at + x) (λ z. omega arith) ∙ get_or-set_same with_link (hashes_at + x) h 0 (omega (arith, size_link));
        newest_is =
            ap (λ (m : List ℕ). cell m place_of_bucket) (l.is few) ∙ get_or-set_same with_hash place_of_bucket (link_of (suc x)) 0 (omega (arith, size_hash));
        other = λ k y z u v. but_bucket k v ∙ but_hash k u ∙ but_link k z ∙ but_end k y;
      }

-- the index stands in a slice that is alike below the rows
pub index_alike : {w w' : List ℕ} {ns : List Node} → Indexed w ns → length ns ≤ most_nodes → ((k : ℕ) → k < arena_words → cell w' k ≡ cell w k) → Indexed w' ns
index_alike h few f =
    record {
      newest_of = λ b lt. f (newest_at + b) (omega arith) ∙ h.newest_of b lt;
      earlier_of = λ x lt. f (earlier_at + x) (omega arith) ∙ h.earlier_of x lt;
      hash_of = λ x lt. f (hashes_at + x) (omega arith) ∙ h.hash_of x lt;
    }

-- the index of one more node
module _ {w w' : List ℕ} {g x end : ℕ} {ns : List Node} (n : Node) (h : Indexed w ns) (j : Joined w g x end w') (is : g ≡ hash (encode n))
    (count : x ≡ length ns) (few : x < most_nodes) where
  abbrev longer : List Node
  longer = ns ++ (n ∷ [])

  low : bucket_of g < buckets
  low = bucket_low (encode n) is

  alike : (i : ℕ) → i < length ns → bucket_at bucket ns i ≡ bucket_at bucket longer i
  alike i lt = ap (λ (m : Node). bucket (encode m)) (sym (node_before ns n i lt))

  last : bucket_at bucket longer (length ns) ≡ bucket_of g
  last = ap (λ (m : Node). bucket (encode m)) (node_last ns n) ∙ ap bucket_of (sym is)

  -- among the nodes before
  as_before : (c k : ℕ) → k ≤ length ns → link_of (newest (bucket_at bucket ns) c k) ≡ link_of (newest (bucket_at bucket longer) c k)
  as_before c k le = ap link_of (newest_alike (bucket_at bucket ns) c (bucket_at bucket longer) k (λ i lt. alike i (omega arith)))

  newest_turn : (c : ℕ) (t : Bool) → eqb (bucket_of g) c ≡ t → c < buckets
      → cell w' (newest_at + c) ≡ link_of (if t (λ _. suc (length ns)) (λ _. newest (bucket_at bucket longer) c (length ns)))
  newest_turn c true e lt =
      ap (λ (a : ℕ). cell w' (newest_at + a)) (sym (eqb-true (bucket_of g) c e)) ∙ j.newest_is ∙ ap (λ (k : ℕ). link_of (suc k)) count
  newest_turn c false e lt =
      j.other (newest_at + c) (λ z. omega arith) (λ z. omega arith) (λ z. omega arith) (λ z. eqb-false (bucket_of g) c e (omega arith))
      ∙ h.newest_of c lt ∙ as_before c (length ns) (omega arith)

  -- the cells of a node before
  kept_link : (i : ℕ) → i < length ns → cell w' (earlier_at + i) ≡ cell w (earlier_at + i)
  kept_link i lt = let b = low in j.other (earlier_at + i) (λ z. omega arith) (λ z. omega arith) (λ z. omega arith) (λ z. omega arith)

  kept_hash : (i : ℕ) → i < length ns → cell w' (hashes_at + i) ≡ cell w (hashes_at + i)
  kept_hash i lt = let b = low in j.other (hashes_at + i) (λ z. omega arith) (λ z. omega arith) (λ z. omega arith) (λ z. omega arith)

  pub index_more : Indexed w' longer
  index_more =
      let size : length longer ≡ suc (length ns) = length-append ns (n ∷ []) ∙ omega arith in
      record {
        newest_of = λ c lt.
            newest_turn c (eqb (bucket_of g) c) refl lt
            ∙ ap (λ (a : ℕ). link_of (if (eqb a c) (λ _. suc (length ns)) (λ _. newest (bucket_at bucket longer) c (length ns)))) (sym last)
            ∙ ap (λ (k : ℕ). link_of (newest (bucket_at bucket longer) c k)) (sym size);
        earlier_of = by_place ns n (λ (i : ℕ). cell w' (earlier_at + i) ≡ link_of (newest (bucket_at bucket longer) (bucket_at bucket longer i) i))
            (λ i lt. kept_link i lt ∙ h.earlier_of i lt ∙ as_before (bucket_at bucket ns i) i (omega arith)
            ∙ ap (λ (c : ℕ). link_of (newest (bucket_at bucket longer) c i)) (alike i lt))
            (ap (λ (i : ℕ). cell w' (earlier_at + i)) (sym count) ∙ j.earlier_is ∙ h.newest_of (bucket_of g) low ∙ as_before (bucket_of g) (length ns) (omega arith)
            ∙ ap (λ (c : ℕ). link_of (newest (bucket_at bucket longer) c (length ns))) (sym last));
        hash_of = by_place ns n (λ (i : ℕ). cell w' (hashes_at + i) ≡ hash (encode (node_at longer i)))
            (λ i lt. kept_hash i lt ∙ h.hash_of i lt ∙ ap (λ (m : Node). hash (encode m)) (sym (node_before ns n i lt)))
            (ap (λ (i : ℕ). cell w' (hashes_at + i)) (sym count) ∙ j.hash_is ∙ is ∙ ap (λ (m : Node). hash (encode m)) (sym (node_last ns n)));
      }

-- following a bucket's links: "a bucket's links list the nodes of that hash"
module _ {w : List ℕ} {ns : List Node} (h : Indexed w ns) (b : ℕ) where
  abbrev buckets_of : ℕ → ℕ
  buckets_of = bucket_at bucket ns

  follow_none : (m : ℕ) → follow w m 0 ≡ []
  follow_none zero = refl
  follow_none (suc m) = refl

  follow_turn : (t : Bool) (k m : ℕ) → eqb (buckets_of k) b ≡ t → k < length ns → ((l : ℕ) → k ≤ l → follow w l (link_of (newest buckets_of b k)) ≡ in_bucket buckets_of b k)
      → suc k ≤ m → follow w m (link_of (if t (λ _. suc k) (λ _. newest buckets_of b k))) ≡ if t (λ _. k ∷ in_bucket buckets_of b k) (λ _. in_bucket buckets_of b k)
  follow_turn true k zero e lt rest le = absurd (omega arith)
  follow_turn true k (suc m) e lt rest le =
      let here : earlier_at + k - earlier_at ≡ k = omega arith in
      let link = h.earlier_of k lt ∙ ap (λ (c : ℕ). link_of (newest buckets_of c k)) (eqb-true (buckets_of k) b e) in
      ap (λ (t : Bool). if t (λ _. []) (λ _. (earlier_at + k - earlier_at) ∷ follow w m (cell w (earlier_at + k)))) (le-ltb (earlier_at + k) earlier_at (omega arith))
      ∙ ap₂ {C = List ℕ} ◌∷◌ here (ap (follow w m) link ∙ rest m (omega arith))
  follow_turn false k m e lt rest le = rest m (omega arith)

  follow_all : (k : ℕ) → k ≤ length ns → (m : ℕ) → k ≤ m → follow w m (link_of (newest buckets_of b k)) ≡ in_bucket buckets_of b k
  follow_all zero few m le = follow_none m
  follow_all (suc k) few m le = follow_turn (eqb (buckets_of k) b) k m refl (omega arith) (λ l z. follow_all k (omega arith) l z) le

  pub links_list : b < buckets → follow w (length ns) (cell w (newest_at + b)) ≡ in_bucket buckets_of b (length ns)
  links_list lt = ap (follow w (length ns)) (h.newest_of b lt) ∙ follow_all (length ns) (omega arith) (length ns) (omega arith)
