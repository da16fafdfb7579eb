-- What the functions of lines.rt ensure: the rules' lines, written.
use Rattle.std.specs.Prelude.{◌≡◌, ℕ, suc, ◌+◌, ◌≤◌, ◌<◌, List, [], ◌∷◌, ◌++◌, map, length, get_or, take, drop, eqb}
use Rattle.cells.specs.Part.{if, run, cell, part}
use Rattle.layout.specs.Layout.{work_length}
use Rattle.rules.specs.Plain.{flag, position}
use Rattle.rules.specs.Text.{tab, comma, decimal, list_text, keyed_text, shape_texts, no_kind}
use Rattle.rules.specs.Table.{Attr}
use Rattle.rules.specs.Types.{Node, AttrSet, node_kinds, encode, kind_of, field_words, node_at}
use Rattle.rules.specs.Canonicalizer.{shown}
use Rattle.rules.specs.Variables.{with_variable, nodes_in, answer_in}
use Rattle.rules.specs.declared.Form.{Form}
use Rattle.rules.specs.declared.Form.TheVariants.{Plain, Numbered as Renumbered}
use Rattle.laws.specs.Variables.{variables_among}
use Rattle.rules.specs.Listing.{head_text, walk, renumber, renumber_field, node_text, node_texts, answer_text}
use Rattle.lang_ty.specs.declared.arena.Pass.{Pass}
use Rattle.lang_ty.specs.declared.arena.Shown.{Shown}
use Rattle.lang_ty.specs.Nodes.{Arena, shown_of}
use Rattle.lang_ty.specs.Sets.{SetAt}
use Rattle.listing.specs.Writes.{Wrote}
use Rattle.listing.specs.Walks.{number_of, Numbered}

-- fields, each with the tab that parts it from what stands before
abbrev pub tabbed : List (List ℕ) → List ℕ
tabbed [] = []
tabbed (f ∷ fs) = tab ∷ (f ++ tabbed fs)

-- the fields of a root's line after its sign
abbrev pub count_texts : Shown → ℕ → List (List ℕ)
count_texts s n = decimal s.passes ∷ decimal s.ops ∷ decimal (flag s.sorted) ∷ decimal (flag s.bailed) ∷ decimal n ∷ []

-- the line of a root with n nodes
abbrev pub head_line : ℕ → ℕ → Shown → ℕ → List ℕ
head_line id sign s n = head_text (1 ∷ id ∷ sign ∷ s.passes ∷ s.ops ∷ flag s.sorted ∷ flag s.bailed ∷ n ∷ [])

-- what stands before element i of a list
abbrev pub parted_by : ℕ → ℕ
parted_by i = if (eqb i 0) (λ _. tab) (λ _. comma)

-- what stands after the keyword of a node
abbrev pub contents_text : Node → List ℕ
contents_text n = tabbed (shape_texts (get_or node_kinds (kind_of n) no_kind).shape (drop 1 (encode n)))

-- a node by its number
abbrev pub numbered : List ℕ → ℕ → List ℕ
numbered work y = decimal (number_of work y)

-- n numbers, if the number at each place is one of those that fit there
pub record WroteNumbers (Fits : ℕ → ℕ → Type 0) (n p : ℕ) (o o' : List ℕ) (r : ℕ) : Type 0 where
  pub is : (f : ℕ → ℕ) → ((i v : ℕ) → i < n → Fits i v → v ≡ f i) → Wrote (tab ∷ list_text (run (λ (i : ℕ). decimal (f i)) 0 n)) p o o' r

-- the n cells from a on, each as f writes it
pub record WroteList (f : ℕ → List ℕ) (w : List ℕ) (a n p : ℕ) (o o' : List ℕ) (r : ℕ) : Type 0 where
  pub is : Wrote (tab ∷ list_text (map f (part w a n))) p o o' r

-- the fields of the set at a, with the numbers of their nodes
pub record WroteFields (w work : List ℕ) (a p : ℕ) (o o' : List ℕ) (r : ℕ) : Type 0 where
  pub is : {t : Attr} → SetAt w a t → Wrote (tab ∷ list_text (keyed_text (field_words (map (renumber_field (number_of work)) t.fields)))) p o o' r

pub record WroteSet (w work : List ℕ) (a p : ℕ) (o o' : List ℕ) (r : ℕ) : Type 0 where
  pub is : {t : Attr} → SetAt w a t → Wrote (contents_text (renumber (number_of work) (AttrSet t))) p o o' r

-- with v for the variable of node x, if it is one
pub record WroteContents (arena work : List ℕ) (x v p : ℕ) (o o' : List ℕ) (r : ℕ) : Type 0 where
  pub is : {q : Pass} {ns : List Node} → Arena arena q ns → x < length ns
      → Wrote (contents_text (renumber (number_of work) (with_variable (λ _. v) (node_at ns x)))) p o o' r

-- how many variables stand before node k of a listing whose nodes were numbered from x on
abbrev pub vars_before : List Node → ℕ → ℕ → ℕ
vars_before ns x k = length (variables_among ns (take k (walk ns x)))

-- what node x shows as its variable: its own number, or how many stand before it
abbrev pub shown_variable : List ℕ → Form → ℕ → ℕ → ℕ
shown_variable arena Plain x before = cell arena (cell arena x + 1)
shown_variable arena Renumbered x before = before

pub record ShowsVariable (arena : List ℕ) (form : Form) (x before r : ℕ) : Type 0 where
  pub is : r ≡ shown_variable arena form x before

pub record CountsVariable (arena work : List ℕ) (k before r : ℕ) : Type 0 where
  pub is : {q : Pass} {ns : List Node} {x n : ℕ} → Arena arena q ns → x < length ns → Numbered work (suc x) (walk ns x) n → k < n
      → before ≡ vars_before ns x k → r ≡ vars_before ns x (k + 1)

-- the line of node k of a listing whose nodes were numbered from x on
pub record WroteNode (arena work : List ℕ) (form : Form) (k before p : ℕ) (o o' : List ℕ) (r : ℕ) : Type 0 where
  pub is : {q : Pass} {ns : List Node} {x n : ℕ} → Arena arena q ns → x < length ns → Numbered work (suc x) (walk ns x) n → k < n
      → before ≡ vars_before ns x k
      → Wrote (node_text k (renumber (λ (y : ℕ). position (eqb y) (walk ns x)) (node_at (nodes_in form ns x) (get_or (walk ns x) k 0)))) p o o' r

pub record WroteNodes (arena work : List ℕ) (form : Form) (n p : ℕ) (o o' : List ℕ) (r : ℕ) : Type 0 where
  pub is : {q : Pass} {ns : List Node} {x : ℕ} → Arena arena q ns → x < length ns → Numbered work (suc x) (walk ns x) n
      → Wrote (node_texts (nodes_in form ns x) (walk ns x) 0 (walk ns x)) p o o' r

-- the lines of a root that is not refused
pub record WroteRoot (arena work : List ℕ) (form : Form) (id sign : ℕ) (s : Shown) (p : ℕ) (o o' : List ℕ) (r : ℕ) : Type 0 where
  pub is : {q : Pass} {ns : List Node} → Arena arena q ns → s.node < length ns → work_length ≤ length work
      → Wrote (answer_text id sign (answer_in form (shown (shown_of s ns)))) p o o' r
