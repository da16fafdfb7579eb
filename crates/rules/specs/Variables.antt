-- Variable numbers that people can read, request 1 of document 02: the variables of a root get 0, 1, 2 in the order of their first appearance. All
-- `tyvar` nodes of a root's answer are its variables, whatever their number.
use Rattle.std.specs.Prelude.{ℕ, zero, suc, List, [], ◌∷◌, ◌++◌, map, eqb}
use Rattle.cells.specs.Part.{if}
use Rattle.rules.specs.Plain.{contains, joined, position}
use Rattle.rules.specs.Types.{Node, TyVar, Primitive, ListOf, Lambda, AttrSet, Union, Intersection, Named, Neg, Bottom, Top, children, node_at}
use Rattle.rules.specs.Members.{add_all}
use Rattle.rules.specs.Canonicalizer.{Answer, shown, refused_with}
use Rattle.rules.specs.declared.Form.{Form}
use Rattle.rules.specs.declared.Form.TheVariants.{Plain, Numbered}

-- the variable that a node is, if it is one
abbrev pub variable_of : Node → List ℕ
variable_of (TyVar v) = v ∷ []
variable_of (Primitive c) = []
variable_of (ListOf a) = []
variable_of (Lambda a b) = []
variable_of (AttrSet a) = []
variable_of (Union ms) = []
variable_of (Intersection ms) = []
variable_of (Named n a) = []
variable_of (Neg a) = []
variable_of Bottom = []
variable_of Top = []

-- "walking from the root, param before body, fields in key order then dyn, members left to right": the variables below x, each as often as it
-- appears
abbrev pub appear_by : ℕ → List Node → ℕ → List ℕ
appear_by zero ns x = []
appear_by (suc f) ns x = variable_of (node_at ns x) ++ joined (map (appear_by f ns) (children (node_at ns x)))

-- "in the order of their first appearance"; children have smaller numbers, so x + 1 levels reach down to the leaves
unfoldable pub free_type_vars : List Node → ℕ → List ℕ
free_type_vars ns x = add_all [] (appear_by (suc x) ns x)

-- the number that a variable gets is its place among these; one that is not among them keeps its own
abbrev pub number_among : List ℕ → ℕ → ℕ
number_among vs v = if (contains vs v) (λ _. position (eqb v) vs) (λ _. v)

-- a node with this in the place of its variable, if it is one
abbrev pub with_variable : (ℕ → ℕ) → Node → Node
with_variable f (TyVar v) = TyVar (f v)
with_variable f (Primitive c) = Primitive c
with_variable f (ListOf a) = ListOf a
with_variable f (Lambda a b) = Lambda a b
with_variable f (AttrSet a) = AttrSet a
with_variable f (Union ms) = Union ms
with_variable f (Intersection ms) = Intersection ms
with_variable f (Named n a) = Named n a
with_variable f (Neg a) = Neg a
with_variable f Bottom = Bottom
with_variable f Top = Top

-- "the variables of one root get 0, 1, 2": the nodes of root x
unfoldable pub normalize_vars : List Node → ℕ → List Node
normalize_vars ns x = map (with_variable (number_among (free_type_vars ns x))) ns

-- the nodes of root x, as a listing of this form shows them
abbrev pub nodes_in : Form → List Node → ℕ → List Node
nodes_in Plain ns x = ns
nodes_in Numbered ns x = normalize_vars ns x

-- a root's answer, likewise; a refusal stays
abbrev pub answer_in : Form → Answer → Answer
answer_in form (refused_with k) = refused_with k
answer_in form (shown a) =
    shown (record {
      passes = a.passes;
      operations = a.operations;
      sorted = a.sorted;
      bailed = a.bailed;
      nodes = nodes_in form a.nodes a.root;
      root = a.root;
    })
