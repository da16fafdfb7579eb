-- The listing: how a root's answer is printed, and when an old listing is in form (11 with its line).
use Rattle.std.specs.Prelude.{Bool, false, ℕ, zero, suc, length, eqb, ltb, leb}
use mathlib.Core.List.{List, [], ◌∷◌, ◌++◌, map, foldl}
use Rattle.cells.specs.Part.{if, cell, part, eq_list}
use Rattle.rules.specs.Plain.{ascii, contains, joined, both, flag, position}
use Rattle.rules.specs.Ceilings.{most_text, most_members, most_nodes}
use Rattle.rules.specs.Text.{tab, line_feed, pieces, number, decimal, Kind, by_word, row_of, row_texts, line_text, a_number, a_flag, a_sign}
use Rattle.rules.specs.Table.{Field, attr_at, keys_in, keys_ascend, Result, accepted, refused, then, all_below, Root, Table}
use Rattle.rules.specs.Types.{Node, TyVar, Primitive, ListOf, Lambda, AttrSet, Union, Intersection, Named, Neg, Bottom, Top, kind, node_kinds}
use Rattle.rules.specs.Types.{ty_var_kind, primitive_kind, list_kind, lambda_kind, attr_set_kind, union_kind, intersection_kind, named_kind, neg_kind}
use Rattle.rules.specs.Types.{bottom_kind, encode, children, members, as_attr, node_at, polarity_of}
use Rattle.rules.specs.Canonicalizer.{Answer, shown, refused_with, answer_of}
use Rattle.rules.specs.Variables.{answer_in}
use Rattle.rules.specs.declared.Form.{Form}
use Rattle.rules.specs.declared.Form.TheVariants.{Plain, Numbered}
use Rattle.std.proofs.Math.Option.{Option, none, some}

-- the lines of a listing that are no nodes, by number
abbrev pub answers_head : ℕ
answers_head = 0

abbrev pub root_head : ℕ
root_head = 1

abbrev pub refused_head : ℕ
refused_head = 2

-- what they say: `answers`, root count; `root`, id, sign, passes, operations, sorted, bailed, node count;
-- `refused`, id, sign, number
abbrev pub head_kinds : List Kind
head_kinds =
    kind (ascii "answers") (a_number ∷ [])
    ∷ kind (ascii "root") (a_number ∷ a_sign ∷ a_number ∷ a_number ∷ a_flag ∷ a_flag ∷ a_number ∷ [])
    ∷ kind (ascii "refused") (a_number ∷ a_sign ∷ a_number ∷ [])
    ∷ []

-- the words of such a line after the number of its kind: a listing's root count; id and sign of a root; its passes and node count, or the number
-- of its refusal
abbrev pub count_word : ℕ
count_word = 1

abbrev pub id_word : ℕ
id_word = 1

abbrev pub sign_word : ℕ
sign_word = 2

abbrev pub passes_word : ℕ
passes_word = 3

abbrev pub nodes_word : ℕ
nodes_word = 7

abbrev pub number_word : ℕ
number_word = 3

abbrev pub head_text : List ℕ → List ℕ
head_text row = line_text (row_texts head_kinds row)

-- "the nodes, children first, root last, each once": seen, with what is reached from x, in the order of a depth-first walk
abbrev pub walk_by : ℕ → List Node → List ℕ → ℕ → List ℕ
walk_by zero ns seen x = seen
walk_by (suc f) ns seen x =
    if (contains seen x) (λ _. seen) (λ _. foldl (walk_by f ns) seen (children (node_at ns x)) ++ (x ∷ []))

-- children have smaller numbers, so x + 1 levels reach down to the leaves
unfoldable pub walk : List Node → ℕ → List ℕ
walk ns x = walk_by (suc x) ns [] x

abbrev pub renumber_field : (ℕ → ℕ) → Field → Field
renumber_field f g = record { key = g.key; type = f g.type }

abbrev pub renumber_dyn : (ℕ → ℕ) → Option ℕ → Option ℕ
renumber_dyn f none = none
renumber_dyn f (some d) = some (f d)

-- "children by node number"
abbrev pub renumber : (ℕ → ℕ) → Node → Node
renumber f (TyVar x) = TyVar x
renumber f (Primitive c) = Primitive c
renumber f (ListOf a) = ListOf (f a)
renumber f (Lambda a b) = Lambda (f a) (f b)
renumber f (AttrSet a) =
    AttrSet (record { fields = map (renumber_field f) a.fields; dyn = renumber_dyn f a.dyn; is_open = a.is_open; optional = a.optional })
renumber f (Union ms) = Union (map f ms)
renumber f (Intersection ms) = Intersection (map f ms)
renumber f (Named n a) = Named n (f a)
renumber f (Neg a) = Neg (f a)
renumber f Bottom = Bottom
renumber f Top = Top

-- "number, kind, contents"
unfoldable pub node_text : ℕ → Node → List ℕ
node_text k n = line_text (decimal k ∷ row_texts node_kinds (encode n))

-- the lines of the nodes xs, numbered from k on; seen is the whole walk
abbrev pub node_texts : List Node → List ℕ → ℕ → List ℕ → List ℕ
node_texts ns seen k [] = []
node_texts ns seen k (x ∷ xs) = node_text k (renumber (λ (y : ℕ). position (eqb y) seen) (node_at ns x)) ++ node_texts ns seen (suc k) xs

-- "its listing line is `refused`, id, sign, number"
abbrev pub answer_text : ℕ → ℕ → Answer → List ℕ
answer_text id s (refused_with k) = head_text (refused_head ∷ id ∷ s ∷ k ∷ [])
answer_text id s (shown a) =
    head_text (root_head ∷ id ∷ s ∷ a.passes ∷ a.operations ∷ flag a.sorted ∷ flag a.bailed ∷ length (walk a.nodes a.root) ∷ [])
    ++ node_texts a.nodes (walk a.nodes a.root) 0 (walk a.nodes a.root)

-- the lines of a root, s its sign (0 for +)
unfoldable pub root_text : Form → Table → ℕ → ℕ → List ℕ
root_text form t id s = answer_text id s (answer_in form (answer_of t id (polarity_of s)))

abbrev pub root_text_of : Form → Table → Root → List ℕ
root_text_of form t root = root_text form t root.id root.sign

-- request 1 of document 02: "A header line `numbered` follows `answers`"
abbrev pub numbered_text : Form → List ℕ
numbered_text Plain = []
numbered_text Numbered = line_text (ascii "numbered" ∷ [])

-- "First line `answers`, root count"
abbrev pub answers_text : Form → ℕ → List ℕ
answers_text form n = head_text (answers_head ∷ n ∷ []) ++ numbered_text form

unfoldable pub listing_text : Form → Table → List ℕ
listing_text form t = answers_text form (length t.roots) ++ joined (map (root_text_of form t) t.roots)

-- a row of a node line, as the node that it says
unfoldable pub node_of : List ℕ → Node
node_of row =
    if (eqb (cell row 0) ty_var_kind) (λ _. TyVar (cell row 1))
    (λ _. if (eqb (cell row 0) primitive_kind) (λ _. Primitive (cell row 1))
    (λ _. if (eqb (cell row 0) list_kind) (λ _. ListOf (cell row 1))
    (λ _. if (eqb (cell row 0) lambda_kind) (λ _. Lambda (cell row 1) (cell row 2))
    (λ _. if (eqb (cell row 0) attr_set_kind) (λ _. AttrSet (attr_at row 1))
    (λ _. if (eqb (cell row 0) union_kind) (λ _. Union (part row 2 (cell row 1)))
    (λ _. if (eqb (cell row 0) intersection_kind) (λ _. Intersection (part row 2 (cell row 1)))
    (λ _. if (eqb (cell row 0) named_kind) (λ _. Named (cell row 1) (cell row 2))
    (λ _. if (eqb (cell row 0) neg_kind) (λ _. Neg (cell row 1))
    (λ _. if (eqb (cell row 0) bottom_kind) (λ _. Bottom)
    (λ _. Top))))))))))

-- "each child smaller than its node, at most 128 members, and ascending keys below the name count"
abbrev pub node_fits : ℕ → ℕ → Node → Bool
node_fits names i n =
    both (all_below i (children n))
    (λ _. both (leb (length (members n)) most_members)
    (λ _. both (keys_ascend (as_attr n)) (λ _. all_below names (keys_in (as_attr n)))))

abbrev pub row_fits : ℕ → ℕ → Option (List ℕ) → Bool
row_fits names i none = false
row_fits names i (some row) = node_fits names i (node_of row)

abbrev pub is_number : ℕ → Option ℕ → Bool
is_number i none = false
is_number i (some n) = eqb n i

-- node i's line: its number, then its kind and contents
abbrev pub node_line_fits : ℕ → ℕ → List (List ℕ) → Bool
node_line_fits names i [] = false
node_line_fits names i (f ∷ fs) = both (is_number i (number f)) (λ _. row_fits names i (by_word node_kinds fs))

unfoldable pub node_in_form : ℕ → ℕ → List ℕ → Bool
node_in_form names i l = node_line_fits names i (pieces tab l)

-- a listing being read: the text of the root's lines so far, the next line's number, and the lines left with what stands after the last
pub record Taking : Type 0 where
  pub text : List ℕ
  pub line : ℕ
  pub rest : List (List ℕ)

-- the next line handed to f; "where one lacks"
abbrev pub next_line : {A : Type 0} → ℕ → List (List ℕ) → (List ℕ → List (List ℕ) → Result A) → Result A
next_line k [] f = refused 11 k
next_line k (l ∷ []) f = refused 11 k
next_line k (l ∷ m ∷ ls) f = f l (m ∷ ls)

abbrev pub take_line : Taking → List ℕ → List (List ℕ) → Taking
take_line c l ls = record { text = c.text ++ l ++ (line_feed ∷ []); line = suc c.line; rest = ls }

abbrev pub take_node : ℕ → ℕ → Taking → Result Taking
take_node names i c =
    next_line c.line c.rest (λ l ls. if (node_in_form names i l) (λ _. accepted (take_line c l ls)) (λ _. refused 11 c.line))

-- "1 to 4,096 nodes in sequence"
abbrev pub take_nodes : ℕ → ℕ → ℕ → Taking → Result Taking
take_nodes names i zero c = accepted c
take_nodes names i (suc n) c = then (take_node names i c) (λ (d : Taking). take_nodes names (suc i) n d)

abbrev pub within : ℕ → ℕ → ℕ → Bool
within a b x = both (leb a x) (λ _. leb x b)

-- a root's line is for this root
abbrev pub for_root : Root → List ℕ → Bool
for_root root row = both (eqb (cell row id_word) root.id) (λ _. eqb (cell row sign_word) root.sign)

-- "passes 1 or 2, marks 0 or 1, refusals 6 to 9": how many nodes follow a root's line, if it is in form
abbrev pub nodes_after : Root → Option (List ℕ) → Option ℕ
nodes_after root none = none
nodes_after root (some row) =
    if (both (both (eqb (cell row 0) root_head) (λ _. for_root root row))
    (λ _. both (within 1 2 (cell row passes_word)) (λ _. within 1 most_nodes (cell row nodes_word))))
    (λ _. some (cell row nodes_word))
    (λ _. if (both (both (eqb (cell row 0) refused_head) (λ _. for_root root row)) (λ _. within 6 9 (cell row number_word)))
    (λ _. some 0)
    (λ _. none))

abbrev pub take_after : ℕ → Taking → Option ℕ → ℕ → Result Taking
take_after names c none k = refused 11 k
take_after names c (some n) k = take_nodes names 0 n c

-- the lines of one root
abbrev pub take_root : ℕ → Root → Taking → Result Taking
take_root names root c =
    next_line c.line c.rest (λ l ls. take_after names (take_line c l ls) (nodes_after root (row_of head_kinds l)) c.line)

abbrev pub blank : Taking → Taking
blank c = record { text = []; line = c.line; rest = c.rest }

-- what stands after the last root's lines: nothing, or a surplus line
abbrev pub at_end : ℕ → List (List ℕ) → Result (List (List ℕ))
at_end k [] = accepted []
at_end k ([] ∷ []) = accepted []
at_end k ((b ∷ l) ∷ []) = refused 11 k
at_end k (l ∷ m ∷ ls) = refused 11 k

-- "for these roots in this order": each root's lines, as a text
abbrev pub take_roots : ℕ → List Root → Taking → Result (List (List ℕ))
take_roots names [] c = at_end c.line c.rest
take_roots names (r ∷ rs) c =
    then (take_root names r (blank c))
    (λ (d : Taking). then (take_roots names rs d) (λ (ts : List (List ℕ)). accepted (d.text ∷ ts)))

abbrev pub is_answers : ℕ → Option (List ℕ) → Bool
is_answers n none = false
is_answers n (some row) = both (eqb (cell row 0) answers_head) (λ _. eqb (cell row count_word) n)

-- request 1: line 2 of a numbered listing is `numbered`, "11 for that mixture, at the header's line". In a plain listing that line is a root's,
-- or one too many
abbrev pub take_numbered : Form → Taking → Result Taking
take_numbered Plain c = accepted c
take_numbered Numbered c =
    next_line c.line c.rest (λ l ls. if (eq_list l (ascii "numbered")) (λ _. accepted (take_line c l ls)) (λ _. refused 11 c.line))

-- each root's lines in an old listing, or 11 with the earliest line at fault; "at most 65,536 bytes (else 11, line 0)"
unfoldable pub old_listing : Form → ℕ → List Root → List ℕ → Result (List (List ℕ))
old_listing form names roots text =
    if (ltb most_text (length text)) (λ _. refused 11 0)
    (λ _. next_line 1 (pieces line_feed text)
    (λ l ls. if (is_answers (length roots) (row_of head_kinds l))
    (λ _. then (take_numbered form (record { text = []; line = 2; rest = ls })) (λ (c : Taking). take_roots names roots c))
    (λ _. refused 11 1)))
