-- The keys of a list's sets, counted: what the functions of own_keys.rt ensure.
use Rattle.std.specs.Prelude.{◌≡◌, Bool, true, false, ◌⊎◌, ℕ, suc, ◌≤◌, ◌<◌, List, [], length, get_or}
use Rattle.std.proofs.Math.Option.{Option, none, some}
use Rattle.cells.specs.Part.{cell}
use Rattle.rules.specs.Ceilings.{most_names}
use Rattle.rules.specs.Plain.{contains}
use Rattle.rules.specs.Table.{Attr, field_keys}
use Rattle.rules.specs.Types.{Node, node_at, as_attr}
use Rattle.rules.specs.Members.{subsumes_node}
use Rattle.laws.specs.Sound.{Orderly}
use Rattle.lang_ty.specs.declared.arena.Pass.{Pass}
use Rattle.lang_ty.specs.Nodes.{Arena}
use Rattle.lang_ty.specs.Sets.{SetAt}
use Rattle.members.specs.Lists.{Taken, first_of}

-- the keys of a set, none of what is no set
abbrev pub keys_of : Option Attr → List ℕ
keys_of none = []
keys_of (some a) = field_keys a.fields

-- node x is a set that has the key k
abbrev pub HasKey : List Node → ℕ → ℕ → Type 0
HasKey ns x k = contains (keys_of (as_attr (node_at ns x))) k ≡ true

-- no count goes down, and that of each of the keys ks goes up. Only this is told: whether a count is 0, 1 or more
pub record Raised (ks counts counts' : List ℕ) : Type 0 where
  pub stays : (k b : ℕ) → b ≤ 2 → b ≤ cell counts k → b ≤ cell counts' k
  pub rises : (k b : ℕ) → contains ks k ≡ true → b ≤ 1 → b ≤ cell counts k → suc b ≤ cell counts' k

pub record CountsKeys (w : List ℕ) (a : ℕ) (counts counts' : List ℕ) : Type 0 where
  pub is : {t : Attr} → SetAt w a t → Orderly t → most_names ≤ length counts → Raised (field_keys t.fields) counts counts'

pub record CountsMember (w : List ℕ) (x : ℕ) (counts counts' : List ℕ) : Type 0 where
  pub is : {q : Pass} {ns : List Node} → Arena w q ns → x < length ns → most_names ≤ length counts → Raised (keys_of (as_attr (node_at ns x))) counts counts'

-- of the first n of xs: a key of one was counted, and a key of two was counted twice
pub record Tallied (ns : List Node) (xs : List ℕ) (n : ℕ) (counts : List ℕ) : Type 0 where
  pub one : (i : ℕ) → i < n → (k : ℕ) → HasKey ns (get_or xs i 0) k → 1 ≤ cell counts k
  pub two : (j : ℕ) → j < n → (i : ℕ) → i < j → (k : ℕ) → HasKey ns (get_or xs i 0) k → HasKey ns (get_or xs j 0) k → 2 ≤ cell counts k

pub record CountsMembers (w ms : List ℕ) (n : ℕ) (counts counts' : List ℕ) : Type 0 where
  pub is : {q : Pass} {ns : List Node} {xs : List ℕ} → Arena w q ns → Taken (first_of n ms) xs (length ns) → most_names ≤ length counts → Tallied ns xs n counts'

-- a requires all its keys if it is a set, and one of them was counted once
pub record Owns (counts : List ℕ) (a : Option Attr) : Type 0 where
  pub key : ℕ
  pub had : contains (keys_of a) key ≡ true
  pub required : (t : Attr) → a ≡ some t → length t.optional ≡ 0
  pub once : cell counts key ≡ 1

pub record OwnKey (w counts : List ℕ) (x : ℕ) (r : Bool) : Type 0 where
  pub is : {q : Pass} {ns : List Node} → Arena w q ns → x < length ns → r ≡ true → Owns counts (as_attr (node_at ns x))

-- a place that is marked was marked before, or it is i, and x has a key of its own
pub record MarksIfOwn (w counts : List ℕ) (x i : ℕ) (own own' : List ℕ) : Type 0 where
  pub is : {q : Pass} {ns : List Node} → Arena w q ns → x < length ns → (k : ℕ) → (cell own' k ≡ 0 → ⊥)
      → (cell own k ≡ 0 → ⊥) ⊎ ((i ≡ k) × Owns counts (as_attr (node_at ns x)))

-- a set at a place that is marked takes up no member at another place
pub record Idle (ns : List Node) (xs own : List ℕ) : Type 0 where
  pub is : (i : ℕ) → i < length xs → (cell own i ≡ 0 → ⊥) → {t : Attr} → as_attr (node_at ns (get_or xs i 0)) ≡ some t → (j : ℕ) → j < length xs → (i ≡ j → ⊥)
      → subsumes_node t (as_attr (node_at ns (get_or xs j 0))) ≡ false

pub record MarksOwn (w ms : List ℕ) (n : ℕ) (own own' : List ℕ) : Type 0 where
  pub is : {q : Pass} {ns : List Node} {xs : List ℕ} → Arena w q ns → Taken (first_of n ms) xs (length ns) → Idle ns xs own → Idle ns xs own'
