-- What the functions of arc_ty.rt ensure: a node's children, and the order of nodes.
use Rattle.std.specs.Prelude.{◌≡◌, ℕ, suc, ◌+◌, ◌*◌, ◌≤◌, ◌<◌, List, ◌∷◌, length, get_or, drop}
use Rattle.rules.specs.Table.{Attr}
use Rattle.rules.specs.Types.{Node, encode, kind_of, members, node_at}
use Rattle.rules.specs.Types as rules
use Rattle.rules.specs.Order.{end, num, child, less, equal, greater, list_items, attr_items, contents, compare_numbers, compare_item, order}
use Rattle.rules.specs.Order as rules-order
use Rattle.lang_ty.specs.declared.arena.Pass.{Pass}
use Rattle.lang_ty.specs.declared.arc_ty.Item.{Item}
use Rattle.lang_ty.specs.declared.arc_ty.Item.TheVariants.{End, Num, Child}
use Rattle.std.specs.declared.cmp.Ordering.{Ordering}
use Rattle.std.specs.declared.cmp.Ordering.TheVariants.{Less, Equal, Greater}
use Rattle.lang_ty.specs.Nodes.{Arena}
use Rattle.lang_ty.specs.Sets.{SetAt}

-- the children of a node other than a set stand from word r on
pub record FirstChild (k r : ℕ) : Type 0 where
  pub is : (n : Node) → kind_of n ≡ k → (k ≡ 4 → ⊥) → drop r (encode n) ≡ rules.children n
  pub small : r ≤ 2

-- "Children go left to right, fields then dyn"
pub record Children (w : List ℕ) (x r : ℕ) : Type 0 where
  pub is : {q : Pass} {ns : List Node} → Arena w q ns → x < length ns → r ≡ length (rules.children (node_at ns x))

pub record ChildAt (w : List ℕ) (x i r : ℕ) : Type 0 where
  pub is : {q : Pass} {ns : List Node} → Arena w q ns → x < length ns → i < length (rules.children (node_at ns x)) → r ≡ get_or (rules.children (node_at ns x)) i 0

abbrev pub item_of : Item → rules-order.Item
item_of End = end
item_of (Num x) = num x
item_of (Child x) = child x

abbrev pub order_of : Ordering → rules-order.Order
order_of Less = less
order_of Equal = equal
order_of Greater = greater

pub record Numbers (a b : ℕ) (r : Ordering) : Type 0 where
  pub is : order_of r ≡ compare_numbers a b

-- how many items the set at a has, and item i of them, of all and of those after its fields
pub record SetItems (w : List ℕ) (a r : ℕ) : Type 0 where
  pub is : {t : Attr} → SetAt w a t → r ≡ length (attr_items t)

pub record SetRest (w : List ℕ) (a i : ℕ) (r : Item) : Type 0 where
  pub is : {t : Attr} → SetAt w a t → suc (2 * length t.fields) + i < length (attr_items t)
      → item_of r ≡ get_or (attr_items t) (suc (2 * length t.fields) + i) end

pub record SetItem (w : List ℕ) (a i : ℕ) (r : Item) : Type 0 where
  pub is : {t : Attr} → SetAt w a t → i < length (attr_items t) → item_of r ≡ get_or (attr_items t) i end

-- neither a set nor a list of members
pub record PlainKind (k : ℕ) : Type 0 where
  pub set : k ≡ 4 → ⊥
  pub union : k ≡ 5 → ⊥
  pub intersection : k ≡ 6 → ⊥

-- how many contents a node of a plain kind has; and content i, which is word w of its row
pub record PlainItems (k r : ℕ) : Type 0 where
  pub is : (n : Node) → kind_of n ≡ k → PlainKind k → r ≡ length (contents n)

pub record PlainItem (k i w : ℕ) (r : Item) : Type 0 where
  pub is : (n : Node) → kind_of n ≡ k → PlainKind k → i < length (contents n) → w ≡ get_or (encode n) (suc i) 0 → item_of r ≡ get_or (contents n) i end

-- a union or an intersection
pub record Composite (n : Node) : Type 0 where
  pub row : encode n ≡ kind_of n ∷ length (members n) ∷ members n
  pub items : contents n ≡ list_items child (members n)

pub record ListItem (w : List ℕ) (x i : ℕ) (r : Item) : Type 0 where
  pub is : {q : Pass} {ns : List Node} → Arena w q ns → x < length ns → Composite (node_at ns x) → i < length (contents (node_at ns x))
      → item_of r ≡ get_or (contents (node_at ns x)) i end

pub record Items (w : List ℕ) (x r : ℕ) : Type 0 where
  pub is : {q : Pass} {ns : List Node} → Arena w q ns → x < length ns → r ≡ length (contents (node_at ns x))

pub record ItemAt (w : List ℕ) (x i : ℕ) (r : Item) : Type 0 where
  pub is : {q : Pass} {ns : List Node} → Arena w q ns → x < length ns → i < length (contents (node_at ns x)) → item_of r ≡ get_or (contents (node_at ns x)) i end

-- two items, the first no child
pub record Plainly (a b : Item) (r : Ordering) : Type 0 where
  pub is : (o : ℕ → ℕ → rules-order.Order) → ((x : ℕ) → a ≡ Child x → ⊥) → order_of r ≡ compare_item o (item_of a) (item_of b)

pub record ComparedAt (w : List ℕ) (a b i : ℕ) (r : Ordering) : Type 0 where
  pub is : {q : Pass} {ns : List Node} → Arena w q ns → a < length ns → b < length ns → i < length (contents (node_at ns a))
      → i < length (contents (node_at ns b))
      → order_of r ≡ compare_item (order (length ns) ns) (get_or (contents (node_at ns a)) i end) (get_or (contents (node_at ns b)) i end)

-- "by kind in OutputTy's order, then contents"
pub record Compared (w : List ℕ) (a b : ℕ) (r : Ordering) : Type 0 where
  pub is : {q : Pass} {ns : List Node} → Arena w q ns → a < length ns → b < length ns → order_of r ≡ order (length ns) ns a b
