-- How long a root's lines are at most, so that no position in a text is too great a number. Assumes nothing.
use mathlib.Core.Path.{◌≡◌, refl, sym, ap, ap₂, ◌∙◌, subst}
use mathlib.Core.Bool.{Bool, true, false}
use Prim.Native.Nat.{ℕ, zero, suc, ◌+◌, ◌*◌, ◌/◌, ◌%◌, ◌≤◌, ◌<◌}
use native.Mathlib.Omega.{arith}
use mathlib.Core.List.{List, [], ◌∷◌, ◌++◌, map}
use lib.ListN.{length, take, drop, get_or, length-append, length-take, length-drop}
use lib.Dec.{eqb, ltb, leb}
use borrow.Author.Tests.{ltb-false, leb-true}
use Rattle.cells.specs.Part.{cell}
use Rattle.rules.specs.Plain.{ascii, all, flag, joined, find, position}
use Rattle.rules.specs.Ceilings.{most_nodes, most_cells}
use Rattle.rules.specs.Text.{tab, line_feed, comma, colon, greatest, parted, decimal_by, decimal, a_list, a_dyn, some_fields, a_sign, a_name}
use Rattle.rules.specs.Text.{list_text, keyed_text, char_text, escaped, field_text, shape_texts, words_of, Kind, no_kind, row_texts, line_text}
use Rattle.rules.specs.Table.{Field}
use Rattle.rules.specs.Types.{Node, TyVar, Primitive, ListOf, Lambda, AttrSet, Union, Intersection, Named, Neg, Bottom, Top}
use Rattle.rules.specs.Types.{field_words, dyn_words, encode, children, node_at, node_kinds}
use Rattle.rules.specs.Canonicalizer.{shown, refused_with}
use Rattle.laws.specs.Sound.{most_root_text}
use Rattle.rules.specs.declared.Form.{Form}
use Rattle.rules.specs.declared.Form.TheVariants.{Plain, Numbered}
use Rattle.rules.specs.Variables.{normalize_vars, nodes_in}
use Rattle.laws.proofs.Numbering.{with_keeps, variable_under, numbered_at, number_low}
use Rattle.laws.proofs.NumberedAnswers.{numbered_length, numbered_rooted}
use Rattle.rules.specs.Listing.{numbered_text, head_kinds, head_text, walk, renumber_field, renumber_dyn, renumber, node_text, node_texts, answer_text, answers_text}
use Rattle.laws.proofs.Admitting.{both_parts}
use Rattle.laws.proofs.Spreading.{total, sum_to, spread_few}
use Rattle.laws.proofs.Walking.{walk_spread}
use Rattle.laws.proofs.Filtering.{under_front, under_back, under_both}
use Rattle.cells.specs.Placed.{Under}
use Rattle.cells.proofs.Choices.{by_branch, by_test}
use mathlib.Core.Option
use mathlib.Core.Option.{Option, none, some}

-- each is a number that a text may have
abbrev pub Numbers : List ℕ → Type 0
Numbers ws = Under (suc greatest) ws

-- a number of d + 1 digits is below this
abbrev ten : ℕ → ℕ
ten zero = 10
ten (suc d) = 10 * ten d

digits_few : (d f n : ℕ) → n < ten d → length (decimal_by f n) ≤ suc d
digits_few d zero n h = omega arith
digits_few zero (suc f) n h =
    by_test (λ (l : List ℕ). length l ≤ 1) (ltb n 10) _ _ (λ e. omega arith) (λ e. absurd (omega (arith, ltb-false n 10 e)))
digits_few (suc d) (suc f) n h =
    by_test (λ (l : List ℕ). length l ≤ suc (suc d)) (ltb n 10) _ _ (λ e. omega arith)
    (λ e. let r = digits_few d f (n / 10) (omega arith) in omega (arith, length-append (decimal_by f (n / 10)) ((48 + n % 10) ∷ [])))

decimal_few : (n : ℕ) → n < suc greatest → length (decimal n) ≤ 10
unfolding decimal
decimal_few n h = digits_few 9 n n (omega arith)

-- the bytes of these texts, with one more for each
abbrev pub weigh : List (List ℕ) → ℕ
weigh [] = 0
weigh (f ∷ fs) = suc (length f) + weigh fs

parted_length : (sep : ℕ) (f : List ℕ) (fs : List (List ℕ)) → suc (length (parted sep (f ∷ fs))) ≡ weigh (f ∷ fs)
parted_length sep f [] = omega arith
parted_length sep f (g ∷ fs) = let r = parted_length sep g fs in omega (arith, length-append f (sep ∷ parted sep (g ∷ fs)))

pub line_length_lem : (f : List ℕ) (fs : List (List ℕ)) → length (line_text (f ∷ fs)) ≡ weigh (f ∷ fs)
line_length_lem f fs = let r = parted_length tab f fs in omega (arith, length-append (parted tab (f ∷ fs)) (line_feed ∷ []))

list_length : (fs : List (List ℕ)) → suc (length (list_text fs)) ≤ 2 + weigh fs
list_length [] = omega arith
list_length (f ∷ fs) = let r = parted_length comma f fs in omega arith

decimals_weigh : (ws : List ℕ) → Numbers ws → weigh (map decimal ws) ≤ 11 * length ws
decimals_weigh [] u = omega arith
decimals_weigh (w ∷ ws) u = let r = decimals_weigh ws u.1 in let d = decimal_few w u.0 in omega arith

keyed_weigh : (ws : List ℕ) → Numbers ws → weigh (keyed_text ws) ≤ 11 * length ws
keyed_weigh [] u = omega arith
keyed_weigh (k ∷ []) u = omega arith
keyed_weigh (k ∷ i ∷ ws) u =
    let r = keyed_weigh ws u.1.1 in let d = decimal_few k u.0 in let e = decimal_few i u.1.0 in
    omega (arith, length-append (decimal k) (colon ∷ decimal i))

char_length : (b : ℕ) → length (char_text b) ≤ 3
char_length b = by_branch (λ (l : List ℕ). length l ≤ 3) (escaped b) _ _ (omega arith) (omega arith)

chars_length : (ws : List ℕ) → length (joined (map char_text ws)) ≤ 11 * length ws
chars_length [] = omega arith
chars_length (w ∷ ws) = let r = chars_length ws in omega (arith, char_length w, length-append (char_text w) (joined (map char_text ws)))

numbers_take : (n : ℕ) (ws : List ℕ) → Numbers ws → Numbers (take n ws)
numbers_take zero ws u = tt
numbers_take (suc n) [] u = tt
numbers_take (suc n) (w ∷ ws) u = (u.0, numbers_take n ws u.1)

numbers_drop : (n : ℕ) (ws : List ℕ) → Numbers ws → Numbers (drop n ws)
numbers_drop zero ws u = u
numbers_drop (suc n) [] u = tt
numbers_drop (suc n) (w ∷ ws) u = numbers_drop n ws u.1

-- eleven bytes for each word, its separator among them; two where there is no word
abbrev Brief : List ℕ → List ℕ → Type 0
Brief ws t = suc (length t) ≤ 2 + 11 * length ws

number_length : (ws : List ℕ) → Numbers ws → Brief ws (decimal (cell ws 0))
unfolding decimal
number_length [] u = omega arith
number_length (w ∷ ws) u = let d = digits_few 9 w w (omega (arith, u.0)) in omega arith

field_length : (k : ℕ) (ws : List ℕ) → Numbers ws → Brief ws (field_text k ws)
unfolding field_text
field_length k ws u =
    let v = numbers_drop 1 ws u in
    let l = length-drop 1 ws in
    let d : Brief ws (list_text (map decimal (drop 1 ws))) = omega (arith, list_length (map decimal (drop 1 ws)), decimals_weigh (drop 1 ws) v) in
    by_branch (Brief ws) (eqb k a_list) _ _ d
    (by_branch (Brief ws) (eqb k a_dyn) _ _ d
    (by_branch (Brief ws) (eqb k some_fields) _ _ (omega (arith, list_length (keyed_text (drop 1 ws)), keyed_weigh (drop 1 ws) v))
    (by_branch (Brief ws) (eqb k a_sign) _ _ (by_branch (Brief ws) (eqb (cell ws 0) 0) _ _ (omega arith) (omega arith))
    (by_branch (Brief ws) (eqb k a_name) _ _ (omega (arith, chars_length ws))
    (number_length ws u)))))

shape_weigh : (ks ws : List ℕ) → Numbers ws → weigh (shape_texts ks ws) ≤ 2 * length ks + 11 * length ws
shape_weigh [] ws u = omega arith
shape_weigh (k ∷ ks) ws u =
    let n = words_of k ws in
    let r = shape_weigh ks (drop n ws) (numbers_drop n ws u) in
    let f = field_length k (take n ws) (numbers_take n ws u) in
    omega (arith, length-take n ws, length-drop n ws)

-- what a kind's keyword takes, and two for each field
abbrev size : Kind → ℕ
size k = length k.word + 2 * length k.shape

-- b is enough for each of the kinds
abbrev slender : ℕ → List Kind → Bool
slender b ks = all (λ (k : Kind). leb (size k) b) ks

slender_at : (b : ℕ) (ks : List Kind) (j : ℕ) → slender b ks ≡ true → size (get_or ks j no_kind) ≤ b
slender_at b [] j s = omega arith
slender_at b (k ∷ ks) zero s = leb-true (size k) b (both_parts (leb (size k) b) (λ _. slender b ks) s).0
slender_at b (k ∷ ks) (suc j) s = slender_at b ks j (both_parts (leb (size k) b) (λ _. slender b ks) s).1

row_weigh : (b : ℕ) (ks : List Kind) (row : List ℕ) → slender b ks ≡ true → Numbers row → weigh (row_texts ks row) ≤ suc b + 11 * length (drop 1 row)
unfolding row_texts
row_weigh b ks row s u =
    let k = get_or ks (cell row 0) no_kind in
    let z = slender_at b ks (cell row 0) s in
    let r = shape_weigh k.shape (drop 1 row) (numbers_drop 1 row u) in omega arith

-- a line that is no node's
head_length : (row : List ℕ) → Numbers row → length (head_text row) ≤ 19 + 11 * length (drop 1 row)
unfolding row_texts
head_length row u =
    let k = get_or head_kinds (cell row 0) no_kind in
    omega (arith, line_length_lem k.word (shape_texts k.shape (drop 1 row)), row_weigh 18 head_kinds row refl u)

node_length : (k : ℕ) (n : Node) → k ≤ greatest → Numbers (encode n) → length (node_text k n) ≤ 23 + 11 * length (encode n)
unfolding node_text
node_length k n h u =
    let d = decimal_few k (omega arith) in
    omega (arith, line_length_lem (decimal k) (row_texts node_kinds (encode n)), row_weigh 11 node_kinds (encode n) refl u, length-drop 1 (encode n))

-- a node with its children renumbered has as many words
module _ (f : ℕ → ℕ) where
  mapped_length : (xs : List ℕ) → length (map f xs) ≡ length xs
  mapped_length [] = refl
  mapped_length (x ∷ xs) = ap suc (mapped_length xs)

  fields_count : (fs : List Field) → length (map (renumber_field f) fs) ≡ length fs
  fields_count [] = refl
  fields_count (g ∷ fs) = ap suc (fields_count fs)

  fields_length : (fs : List Field) → length (field_words (map (renumber_field f) fs)) ≡ length (field_words fs)
  fields_length [] = refl
  fields_length (g ∷ fs) = ap (λ (n : ℕ). suc (suc n)) (fields_length fs)

  dyn_length : (d : Option ℕ) → length (dyn_words (renumber_dyn f d)) ≡ length (dyn_words d)
  dyn_length none = refl
  dyn_length (some d) = refl

  renumber_length : (n : Node) → length (encode (renumber f n)) ≡ length (encode n)
  renumber_length (TyVar x) = refl
  renumber_length (Primitive c) = refl
  renumber_length (ListOf a) = refl
  renumber_length (Lambda a b) = refl
  renumber_length (AttrSet a) = simp length-append (omega (arith, fields_length a.fields, dyn_length a.dyn))
  renumber_length (Union ms) = ap (λ (n : ℕ). suc (suc n)) (mapped_length ms)
  renumber_length (Intersection ms) = ap (λ (n : ℕ). suc (suc n)) (mapped_length ms)
  renumber_length (Named n a) = refl
  renumber_length (Neg a) = refl
  renumber_length Bottom = refl
  renumber_length Top = refl

  -- and numbers only, where f gives numbers
  module _ (h : (y : ℕ) → f y < suc greatest) where
    mapped_numbers : (xs : List ℕ) → Numbers (map f xs)
    mapped_numbers [] = tt
    mapped_numbers (x ∷ xs) = (h x, mapped_numbers xs)

    fields_numbers : (fs : List Field) → Numbers (field_words fs) → Numbers (field_words (map (renumber_field f) fs))
    fields_numbers [] u = tt
    fields_numbers (g ∷ fs) u = (u.0, (h g.type, fields_numbers fs u.1.1))

    dyn_numbers : (d : Option ℕ) → Numbers (dyn_words d) → Numbers (dyn_words (renumber_dyn f d))
    dyn_numbers none u = u
    dyn_numbers (some d) u = (u.0, (h d, tt))

    renumber_numbers : (n : Node) → Numbers (encode n) → Numbers (encode (renumber f n))
    renumber_numbers (TyVar x) u = u
    renumber_numbers (Primitive c) u = u
    renumber_numbers (ListOf a) u = (u.0, (h a, tt))
    renumber_numbers (Lambda a b) u = (u.0, (h a, (h b, tt)))
    renumber_numbers (AttrSet a) u =
        let k = suc greatest in
        let fs = field_words a.fields in
        let gs = field_words (map (renumber_field f) a.fields) in
        let ws = a.is_open ∷ length a.optional ∷ a.optional in
        let v = under_front k (fs ++ dyn_words a.dyn) ws u.1.1 in
        let x = fields_numbers a.fields (under_front k fs (dyn_words a.dyn) v) in
        let y = dyn_numbers a.dyn (under_back k fs (dyn_words a.dyn) v) in (
          u.0,
          (
            omega (arith, u.1.0, fields_count a.fields),
            under_both k (gs ++ dyn_words (renumber_dyn f a.dyn)) ws (under_both k gs (dyn_words (renumber_dyn f a.dyn)) x y)
                (under_back k (fs ++ dyn_words a.dyn) ws u.1.1),
          ),
        )
    renumber_numbers (Union ms) u = (u.0, (omega (arith, u.1.0, mapped_length ms), mapped_numbers ms))
    renumber_numbers (Intersection ms) u = (u.0, (omega (arith, u.1.0, mapped_length ms), mapped_numbers ms))
    renumber_numbers (Named n a) u = (u.0, (u.1.0, (h a, tt)))
    renumber_numbers (Neg a) u = (u.0, (h a, tt))
    renumber_numbers Bottom u = u
    renumber_numbers Top u = u

found_most : (p : ℕ → Bool) (i d : ℕ) (xs : List ℕ) → i + length xs ≤ d → Option.get_or (find p i xs) d ≤ d
found_most p i d [] h = omega arith
found_most p i d (x ∷ xs) h = by_branch (λ (o : Option ℕ). Option.get_or o d ≤ d) (p x) _ _ (omega arith) (found_most p (suc i) d xs (omega arith))

position_most : (p : ℕ → Bool) (xs : List ℕ) → position p xs ≤ length xs
position_most p xs = found_most p 0 (length xs) xs (omega arith)

-- the words of node x's row
abbrev pub row_length : List Node → ℕ → ℕ
row_length ns x = length (encode (node_at ns x))

-- nodes whose lines can be written: few, with few words together, which are numbers, and children first
pub record Modest (ns : List Node) : Type 0 where
  pub few : length ns ≤ most_nodes
  pub words : sum_to (length ns) (row_length ns) ≤ 6 * most_nodes + most_cells
  pub numbers : (x : ℕ) → Numbers (encode (node_at ns x))
  pub below : (i : ℕ) → i < length ns → Under i (children (node_at ns i))

sum_alike : (n : ℕ) (f g : ℕ → ℕ) → ((y : ℕ) → f y ≡ g y) → sum_to n f ≡ sum_to n g
sum_alike zero f g h = refl
sum_alike (suc n) f g h = ap₂ (λ (a b : ℕ). a + b) (sum_alike n f g h) (h n)

-- in either form the nodes are so
pub modest_in : (form : Form) (ns : List Node) (x : ℕ) → Modest ns → Modest (nodes_in form ns x)
modest_in Plain ns x b = b
modest_in Numbered ns x b =
    let long = numbered_length ns x in
    let rows : (y : ℕ) → row_length (normalize_vars ns x) y ≡ row_length ns y =
    λ y. ap (λ (n : Node). length (encode n)) (numbered_at ns x y)
    ∙ with_keeps (λ (n : Node). length (encode n) ≡ row_length ns y) _ (λ v e. e) (node_at ns y) refl in
    let words : Node → Type 0 = λ n. Numbers (encode n) in
    let low = number_low ns x (suc greatest) (λ y. variable_under words (suc greatest) (λ v u. u.1.0) (node_at ns y) (b.numbers y)) in
    record {
      few = omega (arith, b.few);
      words =
          let z = sum_alike (length ns) (row_length (normalize_vars ns x)) (row_length ns) rows in
          let e = ap (λ (k : ℕ). sum_to k (row_length (normalize_vars ns x))) long in omega (arith, b.words);
      numbers = λ y. subst words (sym (numbered_at ns x y)) (with_keeps words _ (λ v u. (u.0, (low v u.1.0, tt))) (node_at ns y) (b.numbers y));
      below = (numbered_rooted ns x (record { is = b.below })).is;
    }

pub below_in : (form : Form) (ns : List Node) {x : ℕ} → x < length ns → x < length (nodes_in form ns x)
below_in Plain ns h = h
below_in Numbered ns {x} h = omega (arith, numbered_length ns x)

-- a node's line at most
abbrev line_most : List Node → ℕ → ℕ
line_most ns x = 23 + 11 * row_length ns x

sum_lines : (ns : List Node) (n : ℕ) → sum_to n (line_most ns) ≡ 23 * n + 11 * sum_to n (row_length ns)
sum_lines ns zero = omega arith
sum_lines ns (suc n) = let r = sum_lines ns n in omega arith

nodes_length : (ns : List Node) (seen : List ℕ) (k : ℕ) (xs : List ℕ) → ((x : ℕ) → Numbers (encode (node_at ns x))) → length seen ≤ greatest
    → k + length xs ≤ greatest → length (node_texts ns seen k xs) ≤ total (line_most ns) xs
nodes_length ns seen k [] u s h = omega arith
nodes_length ns seen k (x ∷ xs) u s h =
    let f : ℕ → ℕ = λ y. position (eqb y) seen in
    let n = renumber f (node_at ns x) in
    let r = nodes_length ns seen (suc k) xs u s (omega arith) in
    let l = node_length k n (omega arith) (renumber_numbers f (λ y. omega (arith, position_most (eqb y) seen)) (node_at ns x) (u x)) in
    omega (arith, renumber_length f (node_at ns x), length-append (node_text k n) (node_texts ns seen (suc k) xs))

flag_number : (b : Bool) → flag b < suc greatest
flag_number true = omega arith
flag_number false = omega arith

pub root_bounded : {ns : List Node} → Modest ns → {x : ℕ} → x < length ns → {id s passes ops : ℕ} (sorted bailed : Bool)
    → Numbers (id ∷ s ∷ passes ∷ ops ∷ []) → length (answer_text id s (shown (record { passes = passes; operations = ops; sorted = sorted; bailed = bailed; nodes = ns; root = x }))) ≤ most_root_text
root_bounded {ns} b {x} lt {id} {s} {passes} {ops} sorted bailed u =
    let w = walk ns x in
    let spread = walk_spread ns (record { is = b.below }) x lt in
    let few : length w ≤ length ns = spread_few spread in
    let row : List ℕ = 1 ∷ id ∷ s ∷ passes ∷ ops ∷ flag sorted ∷ flag bailed ∷ length w ∷ [] in
    let marks : Numbers (flag sorted ∷ flag bailed ∷ length w ∷ []) = (flag_number sorted, (flag_number bailed, (omega (arith, b.few), tt))) in
    let h = head_length row (omega arith, (u.0, (u.1.0, (u.1.1.0, (u.1.1.1.0, marks))))) in
    let l = nodes_length ns w 0 w b.numbers (omega (arith, b.few)) (omega (arith, b.few)) in
    omega (arith, b.few, b.words, spread.is (line_most ns), sum_lines ns (length ns), length-append (head_text row) (node_texts ns w 0 w))

pub refused_bounded : {id s k : ℕ} → Numbers (id ∷ s ∷ k ∷ []) → length (answer_text id s (refused_with k)) ≤ most_root_text
refused_bounded {id} {s} {k} u = omega (arith, head_length (2 ∷ id ∷ s ∷ k ∷ []) (omega arith, u))

numbered_bounded : (form : Form) → length (numbered_text form) ≤ 9
numbered_bounded Plain = omega arith
numbered_bounded Numbered = omega arith

pub answers_bounded : (form : Form) {n : ℕ} → n < suc greatest → length (answers_text form n) ≤ most_root_text
answers_bounded form {n} h =
    omega (arith, head_length (0 ∷ n ∷ []) (omega arith, (h, tt)), numbered_bounded form, length-append (head_text (0 ∷ n ∷ [])) (numbered_text form))

-- the line that a program prints for a refusal
pub refusal_bounded : {k l : ℕ} → k ≤ greatest → l ≤ greatest → length (line_text (ascii "refused" ∷ decimal k ∷ decimal l ∷ [])) ≤ 30
refusal_bounded {k} {l} h i =
    omega (arith, line_length_lem (ascii "refused") (decimal k ∷ decimal l ∷ []), decimal_few k (omega arith), decimal_few l (omega arith))
