-- The store's index: for each bucket its newest node, for each node the newest before it of the same bucket, and its row's hash.
use Rattle.std.specs.Prelude.{◌≡◌, ℕ, zero, suc, ◌+◌, ◌-◌, ◌*◌, ◌/◌, ◌%◌, ◌<◌, List, [], ◌∷◌, length, set, ltb}
use Rattle.cells.specs.Part.{cell, part, if}
use Rattle.layout.specs.Layout.{earlier_at, hashes_at, newest_at, buckets}
use Rattle.rules.specs.Ceilings.{most_nodes}
use Rattle.rules.specs.Types.{Node, encode, node_at}
use Rattle.laws.specs.Indexed.{bucket_at, newest}

-- one more word in a hash of 32 bits
abbrev pub mixed : ℕ → ℕ → ℕ
mixed h x = (h + x) * 1640531527 % 4294967296

abbrev pub hash_from : ℕ → List ℕ → ℕ
hash_from h [] = h
hash_from h (x ∷ xs) = hash_from (mixed h x) xs

unfoldable pub hash : List ℕ → ℕ
hash row = hash_from 0 row

-- a bucket for each 8 bits that a hash may begin with
abbrev pub bucket_of : ℕ → ℕ
bucket_of h = h / 16777216

abbrev pub bucket : List ℕ → ℕ
bucket row = bucket_of (hash row)

-- where the link of a node lies, by the node's number and 1; 0 where there is none
abbrev pub link_of : ℕ → ℕ
link_of zero = 0
link_of (suc x) = earlier_at + x

-- the nodes that are met where k links are followed from the place p on, or fewer
abbrev pub follow : List ℕ → ℕ → ℕ → List ℕ
follow w zero p = []
follow w (suc k) p = if (ltb p earlier_at) (λ _. []) (λ _. (p - earlier_at) ∷ follow w k (cell w p))

-- a bucket tells its newest node, and a node's link the newest before it of the same bucket: so a bucket's links list the nodes of that hash, newest
-- first (`links_list`, proofs/Buckets.antt)
pub record Indexed (w : List ℕ) (ns : List Node) : Type 0 where
  pub newest_of : (b : ℕ) → b < buckets → cell w (newest_at + b) ≡ link_of (newest (bucket_at bucket ns) b (length ns))
  pub earlier_of : (x : ℕ) → x < length ns → cell w (earlier_at + x) ≡ link_of (newest (bucket_at bucket ns) (bucket_at bucket ns x) x)
  pub hash_of : (x : ℕ) → x < length ns → cell w (hashes_at + x) ≡ hash (encode (node_at ns x))

pub record Mixed (h x r : ℕ) : Type 0 where
  pub is : r ≡ mixed h x

pub record Hashed (w : List ℕ) (a n r : ℕ) : Type 0 where
  pub is : r ≡ hash (part w a n)

pub record BucketPlace (h r : ℕ) : Type 0 where
  pub is : r ≡ newest_at + bucket_of h

pub record Newest (w : List ℕ) (h r : ℕ) : Type 0 where
  pub is : r ≡ cell w (newest_at + bucket_of h)

pub record Linked (w : List ℕ) (h x : ℕ) (w' : List ℕ) : Type 0 where
  pub is : x < most_nodes
      → w' ≡ set (set (set w (earlier_at + x) (cell w (newest_at + bucket_of h))) (hashes_at + x) h) (newest_at + bucket_of h) (link_of (suc x))
