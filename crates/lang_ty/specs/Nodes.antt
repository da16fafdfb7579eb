-- Nodes as rows in a lent slice: the row of node i is the cells from the place that cell i tells up to the place that cell i + 1 tells. How the
-- slice stands for the rules' state of a pass, and what the functions of arena.rt ensure. Each contract's premises are arguments of its fields.
use Rattle.std.specs.Prelude.{Option, Some, None, ◌≡◌, Bool, ℕ, suc, ◌+◌, ◌*◌, ◌≤◌, ◌<◌, List, [], ◌∷◌, ◌++◌, length, get_or, set}
use Rattle.std.proofs.Math.Option.{Option as Maybe, none, some}
use Rattle.cells.specs.Part.{cell, part, eq_list}
use Rattle.layout.specs.Layout.{arena_words, arena_length}
use Rattle.rules.specs.Ceilings.{most_members, most_nodes, most_cells}
use Rattle.rules.specs.Types.{State, Out, ok, no, encode, kind_of, members, children, cells_of, as_attr, node_at, store}
use Rattle.rules.specs.Types as rules
use Rattle.rules.specs.Canonicalizer as runs
use Rattle.lang_ty.specs.declared.arena.Pass.{Pass}
use Rattle.lang_ty.specs.declared.arena.OutputTy.{OutputTy}
use Rattle.lang_ty.specs.declared.arena.OutputTy.TheVariants as kinds
use Rattle.lang_ty.specs.Given.{Given}
use Rattle.lang_ty.specs.Given.{Node, Refused}
use Rattle.lang_ty.specs.declared.arena.Shown.{Shown}
use Rattle.cells.specs.Placed.{Holds, Under}
use Rattle.laws.specs.Sound.{Distinct, OrderlySet, Ordered}
use Rattle.laws.specs.Indexed.{seek_node}
use Rattle.lang_ty.specs.Buckets.{hash, bucket, Indexed}

-- a kind's number, which is the first word of its rows
abbrev pub code : OutputTy → ℕ
code kinds.TyVar = 0
code kinds.Primitive = 1
code kinds.List = 2
code kinds.Lambda = 3
code kinds.AttrSet = 4
code kinds.Union = 5
code kinds.Intersection = 6
code kinds.Named = 7
code kinds.Neg = 8
code kinds.Bottom = 9
code kinds.Top = 10

-- where the last row ends at most
abbrev pub highest : ℕ
highest = arena_words + 6 * most_nodes + most_cells

-- the slice holds these nodes, "children first", each once, none with more members than may be, the keys of sets in order, and an index of them. A row has at most 6 words
-- besides its cells, so that there is room for one of 4,096 words after the last
pub record Arena (w : List ℕ) (q : Pass) (ns : List rules.Node) : Type 0 where
  pub count : length ns ≡ q.nodes
  pub few : q.nodes ≤ most_nodes
  pub cells : q.cells ≤ most_cells
  pub first : arena_words ≤ cell w 0
  pub rows : (i : ℕ) → i < length ns → Holds w (cell w i) (encode (node_at ns i))
  pub ends : (i : ℕ) → i < length ns → cell w (suc i) ≡ cell w i + length (encode (node_at ns i))
  pub top : cell w q.nodes ≤ arena_words + 6 * q.nodes + q.cells
  pub below : (i : ℕ) → i < length ns → Under i (children (node_at ns i))
  pub slim : (i : ℕ) → i < length ns → length (members (node_at ns i)) ≤ most_members
  pub distinct : Distinct ns
  pub ordered : Ordered ns
  pub index : Indexed w ns
  pub room : arena_length ≤ length w

-- the slice and the counts are those of a state; its keys and bits lie elsewhere
pub record Stands (st : State) (w : List ℕ) (q : Pass) : Type 0 where
  pub arena : Arena w q st.nodes
  pub cells : st.cells ≡ q.cells
  pub ops : st.ops ≡ q.ops
  pub sorted : st.sorted ≡ q.sorted
  pub bailed : st.bailed ≡ q.bailed

-- what these numbers and the nodes of a pass show
abbrev pub shown_of : Shown → List rules.Node → runs.Shown
shown_of s ns = record { passes = s.passes; operations = s.ops; sorted = s.sorted; bailed = s.bailed; nodes = ns; root = s.node }

-- the rules come to a state of which this is so, the slice is as after that, and what they give is below its nodes
pub record Comes (Is : State → Type 0) (Below : ℕ → Type 0) (w : List ℕ) (q : Pass) : Type 0 where
  pub after : State
  pub is : Is after
  pub stands : Stands after w q
  pub below : Below (length after.nodes)

-- the rules give node x too
abbrev pub Gives : Out ℕ → List ℕ → ℕ → Pass → Type 0
Gives o w x q = Comes (λ (st : State). o ≡ ok x st) (λ (n : ℕ). x < n) w q

-- the rules' outcome by the code's answer: a node, or the number of a refusal
abbrev pub Answer : Out ℕ → List ℕ → Given → Type 0
Answer o w (Node x q) = Gives o w x q
Answer o w (Refused k) = o ≡ no k

pub record Answers (o : Out ℕ) (w : List ℕ) (r : Given) : Type 0 where
  pub is : Answer o w r

-- word i of node x
pub record Word (w : List ℕ) (x i r : ℕ) : Type 0 where
  pub is : r ≡ cell w (cell w x + i)

pub record Kind (w : List ℕ) (x r : ℕ) : Type 0 where
  pub is : {q : Pass} {ns : List rules.Node} → Arena w q ns → x < length ns → r ≡ kind_of (node_at ns x)

pub record Is (w : List ℕ) (k x : ℕ) (r : Bool) : Type 0 where
  pub is : {q : Pass} {ns : List rules.Node} → Arena w q ns → x < length ns → r ≡ rules.is ns k x

pub record Count (w : List ℕ) (x r : ℕ) : Type 0 where
  pub is : {q : Pass} {ns : List rules.Node} → Arena w q ns → x < length ns → r ≡ length (members (node_at ns x))

pub record Member (w : List ℕ) (x i r : ℕ) : Type 0 where
  pub is : {q : Pass} {ns : List rules.Node} → Arena w q ns → x < length ns → i < length (members (node_at ns x)) → r ≡ get_or (members (node_at ns x)) i 0

-- whether the n words from a on are the n words from b on
pub record Same (w : List ℕ) (a b n : ℕ) (r : Bool) : Type 0 where
  pub is : r ≡ eq_list (part w a n) (part w b n)

-- the row of n is the len words from top on, after the rows of ns
pub record Offered (w : List ℕ) (q : Pass) (top len : ℕ) (ns : List rules.Node) (n : rules.Node) : Type 0 where
  pub arena : Arena w q ns
  pub row : Holds w top (encode n)
  pub size : len ≡ length (encode n)
  pub short : len ≤ 4096

-- whether node i's row is that of n
pub record RowIs (w : List ℕ) (i top len : ℕ) (r : Bool) : Type 0 where
  pub is : {q : Pass} {ns : List rules.Node} {n : rules.Node} → Offered w q top len ns n → i < length ns → r ≡ eq_list (encode n) (encode (node_at ns i))

-- the same, by the hash first
pub record Hit (w : List ℕ) (x h top len : ℕ) (r : Bool) : Type 0 where
  pub is : {q : Pass} {ns : List rules.Node} {n : rules.Node} → Offered w q top len ns n → h ≡ hash (encode n) → x < length ns
      → r ≡ eq_list (encode n) (encode (node_at ns x))

abbrev pub found_of : Option ℕ → Maybe ℕ
found_of (Some i) = some i
found_of None = none

pub record Sought (w : List ℕ) (h top len : ℕ) (r : Option ℕ) : Type 0 where
  pub is : {q : Pass} {ns : List rules.Node} {n : rules.Node} → Offered w q top len ns n → h ≡ hash (encode n) → found_of r ≡ seek_node bucket n ns

-- what is asked of a node that is to be stored after k others: its cells, members no more than may be, its children among those, keys in order,
-- and a row that has room
pub record Fits (n : rules.Node) (k count : ℕ) : Type 0 where
  pub cells : cells_of n ≡ count
  pub few : length (members n) ≤ most_members
  pub below : Under k (children n)
  pub ordered : OrderlySet (as_attr n)
  pub short : length (encode n) ≤ 4096

-- n as the next node; 8 where it would be a 4,097th, 9 where "node cells in a pass would pass 16,384"
pub record Kept (w : List ℕ) (q : Pass) (h end cells : ℕ) (w' : List ℕ) (r : Given) : Type 0 where
  pub is : {st : State} {n : rules.Node} → Stands st w q → Fits n q.nodes cells → Holds w (cell w q.nodes) (encode n) → h ≡ hash (encode n)
      → end ≡ cell w q.nodes + length (encode n) → Distinct (st.nodes ++ (n ∷ [])) → Answers (rules.keep n st none) w' r

-- the len words after the last row, as a node: "Storing an equal node again takes nothing"
pub record Interned (w : List ℕ) (q : Pass) (len cells : ℕ) (w' : List ℕ) (r : Given) : Type 0 where
  pub is : {st : State} {n : rules.Node} → Stands st w q → Fits n q.nodes cells → Holds w (cell w q.nodes) (encode n)
      → len ≡ length (encode n) → Answers (store n st) w' r

-- no node yet
pub record Fresh (w w' : List ℕ) : Type 0 where
  pub is : {q : Pass} → q.nodes ≡ 0 → q.cells ≡ 0 → arena_length ≤ length w → Arena w' q []

pub record Top (w : List ℕ) (q : Pass) (r : ℕ) : Type 0 where
  pub is : r ≡ cell w q.nodes

-- w' is w but from t on, where the row was written as far as there is room
pub record Written (t : ℕ) (w w' xs : List ℕ) : Type 0 where
  pub same_length : length w' ≡ length w
  pub below : (k : ℕ) → k < t → cell w' k ≡ cell w k
  pub row : t + length xs ≤ length w → Holds w' t xs

-- one number of another slice, written
pub record Copied (t : ℕ) (w from : List ℕ) (a i : ℕ) (w' : List ℕ) : Type 0 where
  pub is : w' ≡ set w (t + i) (cell from (a + i))

-- a node whose row is these words
pub record Stored (row : List ℕ) (cells : ℕ) (w : List ℕ) (q : Pass) (w' : List ℕ) (r : Given) : Type 0 where
  pub is : {st : State} {n : rules.Node} → Stands st w q → Fits n q.nodes cells → encode n ≡ row → Answers (store n st) w' r

-- m is a union or an intersection of xs, which are below k
pub record Lists (m : rules.Node) (kind : ℕ) (xs : List ℕ) (k : ℕ) : Type 0 where
  pub row : encode m ≡ kind ∷ length xs ∷ xs
  pub cells : cells_of m ≡ length xs
  pub members : rules.members m ≡ xs
  pub plain : as_attr m ≡ none
  pub below : Under k (children m)

-- a union or an intersection of the n numbers from a on; 7 where the member list "of a stored type, would pass 128"
pub record Listed (kind : ℕ) (from : List ℕ) (a n : ℕ) (w : List ℕ) (q : Pass) (w' : List ℕ) (r : Given) : Type 0 where
  pub is : {st : State} {m : rules.Node} → Stands st w q → Lists m kind (part from a n) q.nodes → Answers (store m st) w' r
