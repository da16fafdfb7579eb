-- The order of shared members: "by kind in OutputTy's order, then contents: numbers ascending, children by this same order, lists by
-- first difference with a prefix first; sets by fields, dyn (absent first), open, optional".
use Rattle.std.specs.Prelude.{Bool, true, false, ℕ, zero, suc, List, [], ◌∷◌, ◌++◌, length, eqb, ltb}
use Rattle.cells.specs.Part.{if}
use Rattle.rules.specs.Table.{Field, Attr}
use Rattle.rules.specs.Types.{Node, TyVar, Primitive, ListOf, Lambda, AttrSet, Union, Intersection, Named, Neg, Bottom, Top, kind_of, node_at}
use Rattle.std.proofs.Math.Option.{Option, none, some}

-- what two nodes are compared by, one after another: a list's end comes before anything that goes on
pub data Item : Type 0 where
  end : Item
  num : ℕ → Item
  child : ℕ → Item

pub data Order : Type 0 where
  less : Order
  equal : Order
  greater : Order

abbrev pub list_items : (ℕ → Item) → List ℕ → List Item
list_items f [] = end ∷ []
list_items f (x ∷ xs) = f x ∷ list_items f xs

abbrev pub field_items : List Field → List Item
field_items [] = end ∷ []
field_items (f ∷ fs) = num f.key ∷ child f.type ∷ field_items fs

abbrev pub dyn_items : Option ℕ → List Item
dyn_items none = end ∷ []
dyn_items (some d) = child d ∷ []

abbrev pub attr_items : Attr → List Item
attr_items a = field_items a.fields ++ dyn_items a.dyn ++ (num a.is_open ∷ list_items num a.optional)

abbrev pub contents : Node → List Item
contents (TyVar x) = num x ∷ []
contents (Primitive c) = num c ∷ []
contents (ListOf a) = child a ∷ []
contents (Lambda a b) = child a ∷ child b ∷ []
contents (AttrSet a) = attr_items a
contents (Union ms) = list_items child ms
contents (Intersection ms) = list_items child ms
contents (Named n a) = num n ∷ child a ∷ []
contents (Neg a) = child a ∷ []
contents Bottom = []
contents Top = []

abbrev pub items : Node → List Item
items n = num (kind_of n) ∷ contents n

abbrev pub compare_numbers : ℕ → ℕ → Order
compare_numbers a b = if (ltb a b) (λ _. less) (λ _. if (eqb a b) (λ _. equal) (λ _. greater))

-- two items; `o` compares children. Items of nodes of one kind are of one sort, or one of them is an end
abbrev pub compare_item : (ℕ → ℕ → Order) → Item → Item → Order
compare_item o end end = equal
compare_item o end (num b) = less
compare_item o end (child b) = less
compare_item o (num a) end = greater
compare_item o (num a) (num b) = compare_numbers a b
compare_item o (num a) (child b) = less
compare_item o (child a) end = greater
compare_item o (child a) (num b) = greater
compare_item o (child a) (child b) = o a b

-- the first difference decides
abbrev pub then_by : Order → (Unit {0} → Order) → Order
then_by less f = less
then_by equal f = f tt
then_by greater f = greater

abbrev pub compare_items : (ℕ → ℕ → Order) → List Item → List Item → Order
compare_items o [] [] = equal
compare_items o [] (y ∷ ys) = less
compare_items o (x ∷ xs) [] = greater
compare_items o (x ∷ xs) (y ∷ ys) = then_by (compare_item o x y) (λ _. compare_items o xs ys)

-- the order of nodes a and b; children have smaller numbers, so f levels reach down to the leaves where a and b are below f
unfoldable pub order : ℕ → List Node → ℕ → ℕ → Order
order zero ns a b = equal
order (suc f) ns a b = compare_items (order f ns) (items (node_at ns a)) (items (node_at ns b))

abbrev pub is_greater : Order → Bool
is_greater less = false
is_greater equal = false
is_greater greater = true

-- x after all that are not greater
abbrev pub insert : List Node → ℕ → List ℕ → List ℕ
insert ns x [] = x ∷ []
insert ns x (y ∷ ys) = if (is_greater (order (length ns) ns y x)) (λ _. x ∷ y ∷ ys) (λ _. y ∷ insert ns x ys)

abbrev pub sort_into : List Node → List ℕ → List ℕ → List ℕ
sort_into ns got [] = got
sort_into ns got (x ∷ xs) = sort_into ns (insert ns x got) xs

unfoldable pub sort : List Node → List ℕ → List ℕ
sort ns xs = sort_into ns [] xs
