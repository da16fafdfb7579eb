-- Types: polarity, nodes, the state of a pass, and the store with limits 7, 8 and 9.
use Rattle.std.specs.Prelude.{Bool, true, false, ℕ, ◌+◌, ◌*◌, List, [], ◌∷◌, ◌++◌, map, length, get_or, eqb, ltb}
use Rattle.cells.specs.Part.{if, eq_list}
use Rattle.rules.specs.Plain.{ascii, unless, find}
use Rattle.rules.specs.Ceilings.{most_members, most_nodes, most_cells}
use Rattle.rules.specs.Text.{Kind, a_number, a_code, a_flag, a_list, a_dyn, some_fields}
use Rattle.rules.specs.Table.{Field, Attr, attr_kids}
use Rattle.rules.specs.declared.Polarity.{Polarity}
use Rattle.rules.specs.declared.Polarity.TheVariants.{Positive, Negative}
use Rattle.std.proofs.Math.Option.{Option, none, some}

-- Polarity::flip
abbrev pub flip : Polarity → Polarity
flip Positive = Negative
flip Negative = Positive

-- `+` is 0 and `-` is 1
abbrev pub sign : Polarity → ℕ
sign Positive = 0
sign Negative = 1

abbrev pub positive : Polarity → Bool
positive Positive = true
positive Negative = false

abbrev pub polarity_of : ℕ → Polarity
polarity_of s = if (eqb s 0) (λ _. Positive) (λ _. Negative)

-- OutputTy; children by node number
pub data Node : Type 0 where
  TyVar : ℕ → Node
  Primitive : ℕ → Node
  ListOf : ℕ → Node
  Lambda : ℕ → ℕ → Node
  AttrSet : Attr → Node
  Union : List ℕ → Node
  Intersection : List ℕ → Node
  Named : ℕ → ℕ → Node
  Neg : ℕ → Node
  Bottom : Node
  Top : Node

-- the kinds of nodes by number, in OutputTy's order
abbrev pub ty_var_kind : ℕ
ty_var_kind = 0

abbrev pub primitive_kind : ℕ
primitive_kind = 1

abbrev pub list_kind : ℕ
list_kind = 2

abbrev pub lambda_kind : ℕ
lambda_kind = 3

abbrev pub attr_set_kind : ℕ
attr_set_kind = 4

abbrev pub union_kind : ℕ
union_kind = 5

abbrev pub intersection_kind : ℕ
intersection_kind = 6

abbrev pub named_kind : ℕ
named_kind = 7

abbrev pub neg_kind : ℕ
neg_kind = 8

abbrev pub bottom_kind : ℕ
bottom_kind = 9

abbrev pub top_kind : ℕ
top_kind = 10

abbrev pub kind : List ℕ → List ℕ → Kind
kind word shape = record { word = word; section = 0; shape = shape }

-- the same kinds as a listing writes them; they belong to no section
abbrev pub node_kinds : List Kind
node_kinds =
    kind (ascii "tyvar") (a_number ∷ [])
    ∷ kind (ascii "prim") (a_code ∷ [])
    ∷ kind (ascii "list") (a_number ∷ [])
    ∷ kind (ascii "fn") (a_number ∷ a_number ∷ [])
    ∷ kind (ascii "set") (some_fields ∷ a_dyn ∷ a_flag ∷ a_list ∷ [])
    ∷ kind (ascii "union") (a_list ∷ [])
    ∷ kind (ascii "inter") (a_list ∷ [])
    ∷ kind (ascii "named") (a_number ∷ a_number ∷ [])
    ∷ kind (ascii "neg") (a_number ∷ [])
    ∷ kind (ascii "bottom") []
    ∷ kind (ascii "top") []
    ∷ []

abbrev pub field_words : List Field → List ℕ
field_words [] = []
field_words (f ∷ fs) = f.key ∷ f.type ∷ field_words fs

abbrev pub dyn_words : Option ℕ → List ℕ
dyn_words none = 0 ∷ []
dyn_words (some d) = 1 ∷ d ∷ []

abbrev pub attr_words : Attr → List ℕ
attr_words a = length a.fields ∷ (field_words a.fields ++ dyn_words a.dyn ++ (a.is_open ∷ length a.optional ∷ a.optional))

-- a node as a row: the number of its kind, then the words of its fields. Two nodes are equal if their rows are
abbrev pub encode : Node → List ℕ
encode (TyVar x) = ty_var_kind ∷ x ∷ []
encode (Primitive c) = primitive_kind ∷ c ∷ []
encode (ListOf a) = list_kind ∷ a ∷ []
encode (Lambda a b) = lambda_kind ∷ a ∷ b ∷ []
encode (AttrSet a) = attr_set_kind ∷ attr_words a
encode (Union ms) = union_kind ∷ length ms ∷ ms
encode (Intersection ms) = intersection_kind ∷ length ms ∷ ms
encode (Named n a) = named_kind ∷ n ∷ a ∷ []
encode (Neg a) = neg_kind ∷ a ∷ []
encode Bottom = bottom_kind ∷ []
encode Top = top_kind ∷ []

abbrev pub kind_of : Node → ℕ
kind_of n = get_or (encode n) 0 0

-- the members of a union or an intersection
abbrev pub members : Node → List ℕ
members (TyVar x) = []
members (Primitive c) = []
members (ListOf a) = []
members (Lambda a b) = []
members (AttrSet a) = []
members (Union ms) = ms
members (Intersection ms) = ms
members (Named n a) = []
members (Neg a) = []
members Bottom = []
members Top = []

abbrev pub as_attr : Node → Option Attr
as_attr (TyVar x) = none
as_attr (Primitive c) = none
as_attr (ListOf a) = none
as_attr (Lambda a b) = none
as_attr (AttrSet a) = some a
as_attr (Union ms) = none
as_attr (Intersection ms) = none
as_attr (Named n a) = none
as_attr (Neg a) = none
as_attr Bottom = none
as_attr Top = none

-- "Children go left to right, fields then dyn"
abbrev pub children : Node → List ℕ
children (TyVar x) = []
children (Primitive c) = []
children (ListOf a) = a ∷ []
children (Lambda a b) = a ∷ b ∷ []
children (AttrSet a) = attr_kids a
children (Union ms) = ms
children (Intersection ms) = ms
children (Named n a) = a ∷ []
children (Neg a) = a ∷ []
children Bottom = []
children Top = []

-- "Cells are 1 for each union or intersection member, 2 for each field, 1 for each optional key"
abbrev pub attr_cells : Option Attr → ℕ
attr_cells none = 0
attr_cells (some a) = 2 * length a.fields + length a.optional

abbrev pub cells_of : Node → ℕ
cells_of n = length (members n) + attr_cells (as_attr n)

-- what a pass has: nodes in the order stored, their cells, a key for each id and polarity (0 free, 1 in progress, k + 2 for node k),
-- polarity bits for each id, operations, the sorted mark, whether it bailed
pub record State : Type 0 where
  pub nodes : List Node
  pub cells : ℕ
  pub keys : List ℕ
  pub bits : List ℕ
  pub ops : ℕ
  pub sorted : Bool
  pub bailed : Bool

pub data Out (A : Type 0) : Type 0 where
  ok : A → State → Out A
  no : ℕ → Out A

-- a step of a pass: what it gives with the state after it, or the number of a refusal
abbrev pub Run : Type 0 → Type 0
Run A = State → Out A

abbrev pub bind : {A B : Type 0} → Out A → (A → Run B) → Out B
bind (ok a s) f = f a s
bind (no k) f = no k

infixl 20 ◌>>=◌
abbrev pub ◌>>=◌ : {A B : Type 0} → Run A → (A → Run B) → Run B
◌>>=◌ m f = λ s. bind (m s) f

abbrev pub give : {A : Type 0} → A → Run A
give a = λ s. ok a s

abbrev pub refuse : {A : Type 0} → ℕ → Run A
refuse k = λ s. no k

-- what f makes of the nodes stored so far
abbrev pub ask : {A : Type 0} → (List Node → A) → Run A
ask f = λ s. ok (f s.nodes) s

-- a new node at the end
abbrev pub grown : Node → State → State
grown n s =
    record {
      nodes = s.nodes ++ (n ∷ []);
      cells = s.cells + cells_of n;
      keys = s.keys;
      bits = s.bits;
      ops = s.ops;
      sorted = s.sorted;
      bailed = s.bailed;
    }

-- "Storing an equal node again takes nothing"; 8 before 9
abbrev pub keep : Node → State → Option ℕ → Out ℕ
keep n s (some i) = ok i s
keep n s none =
    unless (ltb (length s.nodes) most_nodes) (λ _. no 8)
    (λ _. if (ltb most_cells (s.cells + cells_of n)) (λ _. no 9)
    (λ _. ok (length s.nodes) (grown n s)))

-- TypeArena::intern: the number of the node that equals n, or of n as a new node; 7 first
unfoldable pub store : Node → Run ℕ
store n = λ s.
    if (ltb most_members (length (members n))) (λ _. no 7)
    (λ _. keep n s (find (eq_list (encode n)) 0 (map encode s.nodes)))

-- 7: "a member list .. going into or out of a rule .. would pass 128"
unfoldable pub limit : List ℕ → Run (List ℕ)
limit xs = if (ltb most_members (length xs)) (λ _. refuse 7) (λ _. give xs)

-- the node with number x
abbrev pub node_at : List Node → ℕ → Node
node_at ns x = get_or ns x Bottom

abbrev pub is : List Node → ℕ → ℕ → Bool
is ns k x = eqb (kind_of (node_at ns x)) k
