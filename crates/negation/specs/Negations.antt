-- Negation: what its functions ensure.
use Rattle.std.specs.Prelude.{◌≡◌, Option, Some, None, ℕ, zero, suc, ◌+◌, ◌≤◌, ◌<◌, List, ◌++◌, length, set, eqb}
use Rattle.cells.specs.Part.{cell, part, if}
use Rattle.layout.specs.Layout.{counted_nodes, held_at, negated_at}
use Rattle.rules.specs.Types.{State, Out, ok, no, Union, Intersection, Neg, kind_of, members, node_at, store}
use Rattle.rules.specs.Types as rules
use Rattle.rules.specs.Members.{negate_by, negate_output_ty}
use Rattle.lang_ty.specs.declared.arena.Pass.{Pass}
use Rattle.lang_ty.specs.Given.{Given, Node, Refused}
use Rattle.lang_ty.specs.Nodes.{Arena, Stands, Answers}
use Rattle.cells.specs.Placed.{Under}

pub record Turns (kind r : ℕ) : Type 0 where
  pub union : kind ≡ 5 → r ≡ 6
  pub intersection : kind ≡ 6 → r ≡ 5
  pub other : (kind ≡ 5 → ⊥) → (kind ≡ 6 → ⊥) → r ≡ 8

-- how many members the first k nodes have together
abbrev pub members_up_to : List rules.Node → ℕ → ℕ
members_up_to ns zero = 0
members_up_to ns (suc k) = members_up_to ns k + length (members (node_at ns k))

-- node x is stored, and from h on, after a negation's own cells, there is room for the members of x and of all nodes below it
pub record Negatable (st : State) (w : List ℕ) (q : Pass) (held : List ℕ) (h x : ℕ) : Type 0 where
  pub stands : Stands st w q
  pub known : x < length st.nodes
  pub behind : held_at ≤ h
  pub room : h + members_up_to st.nodes (suc x) ≤ length held
  pub small : h + members_up_to st.nodes (suc x) ≤ 4294967295

-- of the cells below h none changed but a negation's own, from the counters that it once had up to the last of what it remembers
abbrev pub KeptBut : ℕ → List ℕ → List ℕ → Type 0
KeptBut h held held' = (k : ℕ) → k < h → (counted_nodes ≤ k → held_at ≤ k) → cell held' k ≡ cell held k

-- the rules give node y too; nodes came only at the end
pub record Negation (o : Out ℕ) (st : State) (w : List ℕ) (q : Pass) (h : ℕ) (held held' : List ℕ) (y : ℕ) : Type 0 where
  pub after : State
  pub more : List rules.Node
  pub is : o ≡ ok y after
  pub stands : Stands after w q
  pub nodes : after.nodes ≡ st.nodes ++ more
  pub below : y < length after.nodes
  pub kept : KeptBut h held held'

-- node k comes to node y in this state, through any levels that are enough, and nothing is stored
pub record ComesAgain (st : State) (k y : ℕ) : Type 0 where
  pub below : y < length st.nodes
  pub is : (f : ℕ) → k < f → negate_by f k st ≡ ok y st

-- of the nodes below top those that are remembered come to what is remembered of them
pub record Remembers (st : State) (held : List ℕ) (top : ℕ) : Type 0 where
  pub known : top ≤ length st.nodes
  pub is : (k y : ℕ) → k < top → cell held (negated_at + k) ≡ suc y → ComesAgain st k y

-- and what is remembered after it is right in the state after it
pub record NegationNoted (o : Out ℕ) (st : State) (w : List ℕ) (q : Pass) (h top : ℕ) (held held' : List ℕ) (y : ℕ) : Type 0 where
  pub negation : Negation o st w q h held held' y
  pub remembers : Remembers negation.after held' top

-- the code's answer is that of the rules, and what it remembers is right
abbrev pub AnswersNoted : Out ℕ → State → List ℕ → ℕ → ℕ → List ℕ → List ℕ → Given → Type 0
AnswersNoted o st w h top held held' (Node y q) = NegationNoted o st w q h top held held' y
AnswersNoted o st w h top held held' (Refused k) = o ≡ no k

abbrev pub AnswersGiven : Out ℕ → State → List ℕ → ℕ → List ℕ → List ℕ → Given → Type 0
AnswersGiven o st w h held held' (Node y q) = Negation o st w q h held held' y
AnswersGiven o st w h held held' (Refused k) = o ≡ no k

-- what stands for node x of kind k, once the negations of its members are xs
abbrev pub turned_node : List ℕ → ℕ → ℕ → rules.Node
turned_node xs x k = if (eqb k 5) (λ _. Intersection xs) (λ _. if (eqb k 6) (λ _. Union xs) (λ _. Neg x))

-- as many cells from h on as x has members, for the negations of these
abbrev pub negations : List rules.Node → List ℕ → ℕ → ℕ → List ℕ
negations ns held h x = part held h (length (members (node_at ns x)))

pub record StoresNegation (w held : List ℕ) (h : ℕ) (q : Pass) (x : ℕ) (w' : List ℕ) (r : Given) : Type 0 where
  pub is : {st : State} → Stands st w q → x < length st.nodes → Under (length st.nodes) (negations st.nodes held h x)
      → Answers (store (turned_node (negations st.nodes held h x) x (kind_of (node_at st.nodes x))) st) w' r

-- the rules' negation of a node without members
pub record NegatesSingle (w : List ℕ) (q : Pass) (x : ℕ) (w' : List ℕ) (r : Given) : Type 0 where
  pub is : {st : State} (f : ℕ) → x < f → length (members (node_at st.nodes x)) ≡ 0 → Stands st w q → x < length st.nodes → Answers (negate_by f x st) w' r

-- the cell of node x: the number of the node that it came to and 1, or 0
abbrev pub Recalls : ℕ → Option ℕ → Type 0
Recalls c (Some y) = c ≡ suc y
Recalls c None = c ≡ 0

pub record Recalled (held : List ℕ) (x : ℕ) (r : Option ℕ) : Type 0 where
  pub is : Recalls (cell held (negated_at + x)) r

-- it is remembered that x comes to y
pub record Noted (held : List ℕ) (x y : ℕ) (held' : List ℕ) : Type 0 where
  pub is : suc y ≤ 4294967295 → held' ≡ set held (negated_at + x) (suc y)

-- of a node it is remembered that x comes to it
abbrev pub Notes : List ℕ → ℕ → Given → List ℕ → Type 0
Notes held x (Node y q) held' = Noted held x y held'
Notes held x (Refused k) held' = held' ≡ held

pub record Completes (w held : List ℕ) (h : ℕ) (q : Pass) (x : ℕ) (w' held' : List ℕ) (r : Given) : Type 0 where
  pub stored : StoresNegation w held h q x w' r
  pub noted : Notes held x r held'

-- a node with members, and all below it, are forgotten; all other cells are as before
pub record Forgotten (ns : List rules.Node) (held : List ℕ) (x : ℕ) (held' : List ℕ) : Type 0 where
  pub none : 0 < length (members (node_at ns x)) → (k : ℕ) → k ≤ x → cell held' (negated_at + k) ≡ 0
  pub kept : (k : ℕ) → (negated_at ≤ k → held_at ≤ k) → cell held' k ≡ cell held k

pub record Forgets (w held : List ℕ) (x : ℕ) (held' : List ℕ) : Type 0 where
  pub is : {q : Pass} {ns : List rules.Node} → Arena w q ns → x < length ns → Forgotten ns held x held'

-- the rules' negation through any f levels that are enough; a node that has members is one of those below top
pub record Negates (w held : List ℕ) (h : ℕ) (q : Pass) (x : ℕ) (w' held' : List ℕ) (r : Given) : Type 0 where
  pub is : {st : State} (f top : ℕ) → x < f → (0 < length (members (node_at st.nodes x)) → x < top) → Negatable st w q held h x → Remembers st held top
      → AnswersNoted (negate_by f x st) st w' h top held held' r

pub record NegatesOutput (w held : List ℕ) (h : ℕ) (q : Pass) (x : ℕ) (w' held' : List ℕ) (r : Given) : Type 0 where
  pub is : {st : State} → Negatable st w q held h x → AnswersGiven (negate_output_ty x st) st w' h held held' r
