-- The store with an index: the nodes by buckets, where a node's bucket is a hash of its row, and a search that looks in one bucket only, newest
-- first. Nothing is asked of the hash.
use Rattle.std.specs.Prelude.{Bool, ℕ, zero, suc, List, [], ◌∷◌, length, eqb, ltb}
use Rattle.std.proofs.Math.Option.{Option, none, some}
use Rattle.cells.specs.Part.{if, eq_list}
use Rattle.rules.specs.Ceilings.{most_members}
use Rattle.rules.specs.Types.{Node, Run, no, ◌>>=◌, give, encode, members, node_at, keep}

-- the bucket of node i
abbrev pub bucket_at : (List ℕ → ℕ) → List Node → ℕ → ℕ
bucket_at hash ns i = hash (encode (node_at ns i))

-- whether node i has this row
abbrev pub row_at : List ℕ → List Node → ℕ → Bool
row_at row ns i = eq_list row (encode (node_at ns i))

-- the newest of the first k nodes that is in bucket b, and 1; 0 where none is
abbrev pub newest : (ℕ → ℕ) → ℕ → ℕ → ℕ
newest bucket b zero = 0
newest bucket b (suc k) = if (eqb (bucket k) b) (λ _. suc k) (λ _. newest bucket b k)

-- those of the first k nodes that are in bucket b, newest first
abbrev pub in_bucket : (ℕ → ℕ) → ℕ → ℕ → List ℕ
in_bucket bucket b zero = []
in_bucket bucket b (suc k) = if (eqb (bucket k) b) (λ _. k ∷ in_bucket bucket b k) (λ _. in_bucket bucket b k)

-- the first k nodes searched, newest first, those of bucket b alone
abbrev pub seek : (ℕ → ℕ) → (ℕ → Bool) → ℕ → ℕ → Option ℕ
seek bucket is b zero = none
seek bucket is b (suc k) = if (eqb (bucket k) b) (λ _. if (is k) (λ _. some k) (λ _. seek bucket is b k)) (λ _. seek bucket is b k)

-- n sought in the bucket that it would have
abbrev pub seek_node : (List ℕ → ℕ) → Node → List Node → Option ℕ
seek_node hash n ns = seek (bucket_at hash ns) (row_at (encode n) ns) (hash (encode n)) (length ns)

-- the rules' store with this search in the place of its own
abbrev pub store_indexed : (List ℕ → ℕ) → Node → Run ℕ
store_indexed hash n = λ s. if (ltb most_members (length (members n))) (λ _. no 7) (λ _. keep n s (seek_node hash n s.nodes))

-- nodes stored one after another: their numbers, or the first refusal
abbrev pub series : (Node → Run ℕ) → List Node → Run (List ℕ)
series store [] = give []
series store (n ∷ ns) = store n >>= λ x. series store ns >>= λ xs. give (x ∷ xs)
