-- What holds of every state that a pass over a table reaches: sets with keys in order, cells counted, keys that name nodes; and how many ids
-- the entries with free keys have.
use Rattle.std.specs.Prelude.{◌≡◌, true, ℕ, zero, suc, ◌+◌, ◌*◌, ◌≤◌, ◌<◌, List, [], ◌∷◌, length}
use Rattle.cells.specs.Part.{cell}
use Rattle.rules.specs.Plain.{ascending}
use Rattle.rules.specs.Ceilings.{most_names, most_entries, most_ids, most_nodes, most_cells}
use Rattle.rules.specs.Table.{Attr, field_keys, kids, as_set}
use Rattle.rules.specs.Types.{Node, State, cells_of, as_attr, node_at}
use Rattle.rules.specs.Canonicalizer.{Pass, Reader}
use Rattle.cells.specs.Placed.{Under}
use Rattle.std.proofs.Math.Option.{Option, none, some}

-- nodes of different numbers are different: the store keeps equal nodes once
pub record Distinct (ns : List Node) : Type 0 where
  pub is : (i j : ℕ) → i < length ns → j < length ns → node_at ns i ≡ node_at ns j → i ≡ j

-- "Field keys and optional keys are name numbers, each strictly ascending"
pub record Orderly (a : Attr) : Type 0 where
  pub ascend : ascending (field_keys a.fields) ≡ true
  pub named : Under most_names (field_keys a.fields)
  pub few : length a.optional ≤ most_names
  pub optional : ascending a.optional ≡ true

abbrev pub OrderlySet : Option Attr → Type 0
OrderlySet none = Unit {0}
OrderlySet (some a) = Orderly a

-- each set among the nodes is so
pub record Ordered (ns : List Node) : Type 0 where
  pub is : (i : ℕ) → i < length ns → OrderlySet (as_attr (node_at ns i))

-- the cells of these nodes together
abbrev pub cells_in : List Node → ℕ
cells_in [] = 0
cells_in (n ∷ ns) = cells_of n + cells_in ns

pub record Sound (st : State) : Type 0 where
  pub ordered : Ordered st.nodes
  pub counted : st.cells ≡ cells_in st.nodes

-- a state of a pass over n entries: each key is free, in progress, or names a node
pub record Steady (n : ℕ) (st : State) : Type 0 where
  pub sound : Sound st
  pub keys : length st.keys ≡ 2 * n
  pub bits : length st.bits ≡ n
  pub stored : (k : ℕ) → cell st.keys k < length st.nodes + 2

-- what of a size is there while a key is free
abbrev pub while_free : ℕ → ℕ → ℕ
while_free zero size = size
while_free (suc k) size = 0

-- the ids of the entries from id on, once for each key that is free
abbrev pub load : Reader → ℕ → List ℕ → ℕ
load t id [] = 0
load t id (a ∷ []) = 0
load t id (a ∷ b ∷ ks) = while_free a (length (kids (t id))) + while_free b (length (kids (t id))) + load t (suc id) ks

-- the ids of n entries from id on
abbrev pub ids_of : Reader → ℕ → ℕ → ℕ
ids_of t id zero = 0
ids_of t id (suc n) = length (kids (t id)) + ids_of t (suc id) n

-- what a table that is accepted says of a pass: ids and representatives are entries, sets are in order, within the ceilings
pub record Tabled (p : Pass) (t : Reader) : Type 0 where
  pub few : p.count ≤ most_entries
  pub known : (id : ℕ) → id < p.count → Under p.count (kids (t id))
  pub orderly : (id : ℕ) → id < p.count → OrderlySet (as_set (t id))
  pub reps : (id : ℕ) → id < p.count → p.rep id < p.count
  pub ids : ids_of t 0 p.count ≤ most_ids

-- the bytes of a root's lines at most: those of its own line, and for each node 23 and 11 for each word of its row
abbrev pub most_root_text : ℕ
most_root_text = 96 + 23 * most_nodes + 11 * (6 * most_nodes + most_cells)
