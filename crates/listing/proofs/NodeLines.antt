-- The lines of a root's nodes. Assumes nothing.
use mathlib.Core.Path.{◌≡◌, refl, sym, ap, ap₂, ◌∙◌}
use mathlib.Core.Bool.{true}
use Prim.Native.Nat.{ℕ, suc, ◌+◌, ◌≤◌, ◌<◌}
use native.Mathlib.Omega.{arith}
use native.Mathlib.Numerals.{add-one}
use mathlib.Core.List.{List, [], ◌∷◌, ◌++◌, map, append-nil, append_assoc}
use lib.ListN.{length, get_or, take, length-append, length-take}
use lib.Seq.{take-suc, take_all, length-take-le}
use lib.Dec.{eqb}
use Rattle.cells.specs.Part.{cell}
use Rattle.cells.proofs.Holding.{holds_at}
use Rattle.cells.proofs.Parts.{run_get_d}
use Rattle.rules.specs.Plain.{contains, position}
use Rattle.rules.specs.Text.{decimal, row_texts, no_kind}
use Rattle.rules.specs.Text as Text
use Rattle.rules.specs.Table.{Field, field_types, dyn_ids}
use Rattle.rules.specs.Types.{Node, TyVar, Primitive, ListOf, Lambda, AttrSet, Union, Intersection, Named, Neg, Bottom, Top, node_kinds, encode, kind_of}
use Rattle.rules.specs.Types.{children, node_at}
use Rattle.rules.specs.Variables.{variable_of, free_type_vars, number_among, with_variable, nodes_in}
use Rattle.rules.specs.declared.Form.{Form}
use Rattle.rules.specs.declared.Form.TheVariants.{Plain, Numbered as Renumbered}
use Rattle.rules.specs.Listing.{walk, renumber, renumber_field, renumber_dyn, node_text, node_texts}
use Rattle.laws.specs.Variables.{variables_among}
use Rattle.laws.proofs.Rows.{by_kind}
use Rattle.laws.proofs.Walking.{steps_closed, walk_few}
use Rattle.laws.proofs.Numbering.{Sort, is_variable_lem, no_variable, sort_of, with_keeps, children_with, numbered_at, among_last, among_few, number_in_lines}
use Rattle.laws.proofs.NumberedAnswers.{lines_in}
use Rattle.lang_ty.proofs.Words.{tyvar_at}
use Rattle.cells.specs.Sum.{Sum}
use Rattle.text.specs.Keywords.{word_at, kind_at, kinds_in}
use Rattle.lang_ty.specs.declared.arena.Pass.{Pass}
use Rattle.lang_ty.specs.declared.arena.Shown.{Shown}
use Rattle.lang_ty.specs.Nodes.{Arena, Word, Kind, shown_of}
use Rattle.listing.specs.Writes.{Wrote, WroteKeyword}
use Rattle.listing.specs.Walks.{order_at, number_of, Numbered, Walks}
use Rattle.listing.specs.Printed.{head_line, contents_text, WroteContents, vars_before, shown_variable, ShowsVariable, CountsVariable, WroteNode, WroteNodes, WroteRoot}
use Rattle.listing.proofs.Texts.{wrote_more, wrote_as}
use Rattle.listing.proofs.Heads.{line_tabbed}
use Rattle.listing.proofs.Walking.{Known, reached_known}
use Rattle.listing.proofs.Numbering.{rooted, number_is}
use mathlib.Core.Option.{Option, none, some}
use Rattle.laws.proofs.Containing.{contains_first, contains_later, contains_at}

-- a node is renumbered alike by what agrees on its children
module _ (f g : ℕ → ℕ) where
  abbrev Alike : List ℕ → Type 0
  Alike xs = (y : ℕ) → contains xs y ≡ true → f y ≡ g y

  alike_first : (x : ℕ) (xs : List ℕ) → Alike (x ∷ xs) → f x ≡ g x
  alike_first x xs h = h x (contains_first x xs)

  alike_later : (x : ℕ) (xs : List ℕ) → Alike (x ∷ xs) → Alike xs
  alike_later x xs h y c = h y (contains_later x y xs c)

  alike_map : (xs : List ℕ) → Alike xs → map f xs ≡ map g xs
  alike_map [] h = refl
  alike_map (x ∷ xs) h = ap₂ {C = List ℕ} (λ (y : ℕ) (ys : List ℕ). y ∷ ys) (alike_first x xs h) (alike_map xs (alike_later x xs h))

  alike_fields : (fs : List Field) (ys : List ℕ) → Alike (field_types fs ++ ys) → map (renumber_field f) fs ≡ map (renumber_field g) fs
  alike_fields [] ys h = refl
  alike_fields (d ∷ fs) ys h =
      ap₂ {C = List Field} (λ (y : ℕ) (l : List Field). record { key = d.key; type = y } ∷ l)
      (alike_first d.type (field_types fs ++ ys) h)
      (alike_fields fs ys (alike_later d.type (field_types fs ++ ys) h))

  alike_back : (xs ys : List ℕ) → Alike (xs ++ ys) → Alike ys
  alike_back [] ys h = h
  alike_back (x ∷ xs) ys h = alike_back xs ys (alike_later x (xs ++ ys) h)

  alike_dyn : (d : Option ℕ) → Alike (dyn_ids d) → renumber_dyn f d ≡ renumber_dyn g d
  alike_dyn none h = refl
  alike_dyn (some d) h = ap some (alike_first d [] h)

  renumber_alike : (n : Node) → Alike (children n) → renumber f n ≡ renumber g n
  renumber_alike (TyVar x) h = refl
  renumber_alike (Primitive c) h = refl
  renumber_alike (ListOf a) h = ap ListOf (alike_first a [] h)
  renumber_alike (Lambda a b) h = ap₂ {C = Node} Lambda (alike_first a (b ∷ []) h) (alike_first b [] (alike_later a (b ∷ []) h))
  renumber_alike (AttrSet t) h =
      ap₂ {C = Node} (λ (fs : List Field) (d : Option ℕ). AttrSet (record { fields = fs; dyn = d; is_open = t.is_open; optional = t.optional }))
      (alike_fields t.fields (dyn_ids t.dyn) h)
      (alike_dyn t.dyn (alike_back (field_types t.fields) (dyn_ids t.dyn) h))
  renumber_alike (Union ms) h = ap Union (alike_map ms h)
  renumber_alike (Intersection ms) h = ap Intersection (alike_map ms h)
  renumber_alike (Named n a) h = ap (Named n) (alike_first a [] h)
  renumber_alike (Neg a) h = ap Neg (alike_first a [] h)
  renumber_alike Bottom h = refl
  renumber_alike Top h = refl

-- kinds
kind_renumbered : (f : ℕ → ℕ) (n : Node) → kind_of n ≡ kind_of (renumber f n)
kind_renumbered f (TyVar x) = refl
kind_renumbered f (Primitive c) = refl
kind_renumbered f (ListOf a) = refl
kind_renumbered f (Lambda a b) = refl
kind_renumbered f (AttrSet t) = refl
kind_renumbered f (Union ms) = refl
kind_renumbered f (Intersection ms) = refl
kind_renumbered f (Named n a) = refl
kind_renumbered f (Neg a) = refl
kind_renumbered f Bottom = refl
kind_renumbered f Top = refl

kind_known : (n : Node) → kind_of n < length node_kinds
kind_known (TyVar x) = omega arith
kind_known (Primitive c) = omega arith
kind_known (ListOf a) = omega arith
kind_known (Lambda a b) = omega arith
kind_known (AttrSet t) = omega arith
kind_known (Union ms) = omega arith
kind_known (Intersection ms) = omega arith
kind_known (Named n a) = omega arith
kind_known (Neg a) = omega arith
kind_known Bottom = omega arith
kind_known Top = omega arith

-- the keyword of a kind
word_of : (b : List ℕ) (n i : ℕ) {ks : List Text.Kind} → kinds_in b n ≡ ks → i < n → word_at b i ≡ (get_or ks i no_kind).word
word_of b n i e lt =
    let z : i ≡ 0 + i = omega arith in
    ap (λ (j : ℕ). word_at b j) z
    ∙ ap (λ (k : Text.Kind). k.word) (sym (run_get_d (kind_at b) 0 n i no_kind lt))
    ∙ ap (λ (l : List Text.Kind). (get_or l i no_kind).word) e

-- a node's line from its parts
node_text_lem : (k : ℕ) (n : Node) → decimal k ++ (9 ∷ []) ++ (get_or node_kinds (kind_of n) no_kind).word ++ contents_text n ++ (10 ∷ []) ≡ node_text k n
unfolding node_text row_texts
node_text_lem k n =
    ap (λ (l : List ℕ). l ++ (10 ∷ []))
    (append_assoc (decimal k ++ (9 ∷ [])) (get_or node_kinds (kind_of n) no_kind).word (contents_text n)
    ∙ append_assoc (decimal k) (9 ∷ []) ((get_or node_kinds (kind_of n) no_kind).word ++ contents_text n))
    ∙ line_tabbed (decimal k) (row_texts node_kinds (encode n))

-- the nodes of a walk
module _ {w work : List ℕ} {q : Pass} {ns : List Node} {x n : ℕ} (ar : Arena w q ns) (lt : x < length ns) (nb : Numbered work (suc x) (walk ns x) n) where
  known : Known ns (suc x) (walk ns x)
  unfolding walk
  known = reached_known ns (rooted ar) (suc x) lt (x ∷ []) (omega arith, tt)

  node_here : (k : ℕ) → k < n → cell work (order_at + k) ≡ get_or (walk ns x) k 0
  node_here k l = let c = nb.count in holds_at nb.nodes k (omega arith)

  node_below : (k : ℕ) → k < n → get_or (walk ns x) k 0 < length ns
  node_below k l = let c = nb.count in let b = known.within (get_or (walk ns x) k 0) (contains_at (walk ns x) k (omega arith)) in omega arith

  node_numbers : (k : ℕ) (m : Node) → k < n → children m ≡ children (node_at ns (get_or (walk ns x) k 0))
      → renumber (number_of work) m ≡ renumber (λ (y : ℕ). position (eqb y) (walk ns x)) m
  node_numbers k m l e =
      let c = nb.count in
      renumber_alike (number_of work) (λ (y : ℕ). position (eqb y) (walk ns x)) m
      (λ y h. number_is nb y
      (steps_closed ns [] (walk ns x) (get_or (walk ns x) k 0) y known.steps (contains_at (walk ns x) k (omega arith))
      (ap (λ (ys : List ℕ). contains ys y) (sym e) ∙ h)))

  few_nodes : (k : ℕ) → length (variables_among ns (take k (walk ns x))) ≤ 4096
  few_nodes k =
      omega (arith, among_few ns (take k (walk ns x)), length-take k (walk ns x), walk_few ns (rooted ar) x lt, ar.count, ar.few)

-- each way out of `shown_variable`
pub shows_own : {arena : List ℕ} {form : Form} {x before r : ℕ} → form ≡ Plain → Word arena x 1 r → ShowsVariable arena form x before r
shows_own {arena} {x = x} {before} e w = record { is = w.is ∙ ap (λ (f : Form). shown_variable arena f x before) (sym e) }

pub shows_before : {arena : List ℕ} {form : Form} {x before : ℕ} → form ≡ Renumbered → ShowsVariable arena form x before before
shows_before {arena} {x = x} {before} e = record { is = ap (λ (f : Form). shown_variable arena f x before) (sym e) }

-- what node k of the listing shows as its variable
shown_plain : {w : List ℕ} {q : Pass} {ns : List Node} (ar : Arena w q ns) (y v : ℕ) → y < length ns → v ≡ cell w (cell w y + 1) → (n : Node) → Sort n → node_at ns y ≡ n
    → with_variable (λ _. v) n ≡ n
shown_plain {ns = ns} ar y v lt e n (is_variable_lem u) q = tyvar_at ar lt (ap kind_of q) (record { is = e }) ∙ q
shown_plain ar y v lt e n (no_variable z same) q = same (λ _. v)

shown_numbered : (f : ℕ → ℕ) (v : ℕ) (n : Node) → Sort n → ((u : ℕ) → n ≡ TyVar u → f u ≡ v) → with_variable (λ _. v) n ≡ with_variable f n
shown_numbered f v n (is_variable_lem u) h = ap TyVar (sym (h u refl))
shown_numbered f v n (no_variable z same) h = same (λ _. v) ∙ sym (same f)

shown_here : {w : List ℕ} {q : Pass} {ns : List Node} (form : Form) (ar : Arena w q ns) (x k v before : ℕ) → x < length ns → k < length (walk ns x)
    → get_or (walk ns x) k 0 < length ns → v ≡ shown_variable w form (get_or (walk ns x) k 0) before → before ≡ vars_before ns x k
    → with_variable (λ _. v) (node_at ns (get_or (walk ns x) k 0)) ≡ node_at (nodes_in form ns x) (get_or (walk ns x) k 0)
shown_here {ns = ns} Plain ar x k v before lt few below e f =
    let y = get_or (walk ns x) k 0 in shown_plain ar y v below e (node_at ns y) (sort_of (node_at ns y)) refl
shown_here {ns = ns} Renumbered ar x k v before lt few below e f =
    let y = get_or (walk ns x) k 0 in
    shown_numbered (number_among (free_type_vars ns x)) v (node_at ns y) (sort_of (node_at ns y))
    (λ u h. number_in_lines ns (rooted ar) ar.distinct x lt k u few h ∙ sym f ∙ sym e)
    ∙ sym (numbered_at ns x y)

node_written : {arena work b : List ℕ} {x v kind p q₁ q₂ q₃ q₄ r : ℕ} {o o₁ o₂ o₃ o₄ o₅ : List ℕ} {q : Pass} {ns : List Node} (k : ℕ) → Wrote (decimal k) p o o₁ q₁
    → Wrote (9 ∷ []) q₁ o₁ o₂ q₂ → Kind arena x kind → kinds_in b 11 ≡ node_kinds → WroteKeyword b kind q₂ o₂ o₃ q₃ → WroteContents arena work x v q₃ o₃ o₄ q₄ → Wrote (10 ∷ []) q₄ o₄ o₅ r
    → Arena arena q ns → x < length ns → Wrote (node_text k (renumber (number_of work) (with_variable (λ _. v) (node_at ns x)))) p o o₅ r
node_written {work = work} {b} {x} {v} {kind} {ns = ns} k a s kd ks c d e ar lt =
    let n = with_variable (λ _. v) (node_at ns x) in
    let z : kind ≡ kind_of n = kd.is ar lt ∙ with_keeps (λ (m : Node). kind_of (node_at ns x) ≡ kind_of m) (λ _. v) (λ u e. e) (node_at ns x) refl in
    let known : kind < 11 = let h = kind_known n in omega arith in
    let word = wrote_as c.is (word_of b 11 kind ks known ∙ ap (λ (j : ℕ). (get_or node_kinds j no_kind).word) (z ∙ kind_renumbered (number_of work) n)) in
    wrote_as (wrote_more (wrote_more (wrote_more (wrote_more a s) word) (d.is ar lt)) e) (node_text_lem k (renumber (number_of work) n))

pub node_line_is : {arena work b : List ℕ} {form : Form} {k before x v kind p q₁ q₂ q₃ q₄ r : ℕ} {o o₁ o₂ o₃ o₄ o₅ : List ℕ} → x ≡ cell work (order_at + k)
    → Wrote (decimal k) p o o₁ q₁ → Wrote (9 ∷ []) q₁ o₁ o₂ q₂ → Kind arena x kind → kinds_in b 11 ≡ node_kinds → WroteKeyword b kind q₂ o₂ o₃ q₃
    → ShowsVariable arena form x before v → WroteContents arena work x v q₃ o₃ o₄ q₄ → Wrote (10 ∷ []) q₄ o₄ o₅ r → WroteNode arena work form k before p o o₅ r
node_line_is {arena} {work} {form = form} {k} {before} {x} {v} at a s kd ks c sv d e = record {
  is = λ {q} {ns} {x = root} {n} ar lt nb l f.
      let y = get_or (walk ns root) k 0 in
      let z : x ≡ y = at ∙ node_here ar lt nb k l in
      let below = node_below ar lt nb k l in
      let shows : Node = with_variable (λ _. v) (node_at ns y) in
      let few : k < length (walk ns root) = let m = nb.count in omega arith in
      wrote_as (node_written k a s kd ks c d e ar (omega arith))
      (ap (λ (j : ℕ). node_text k (renumber (number_of work) (with_variable (λ _. v) (node_at ns j)))) z
      ∙ ap (node_text k) (node_numbers ar lt nb k shows l (children_with (λ _. v) (node_at ns y)))
      ∙ ap (λ (m : Node). node_text k (renumber (λ (i : ℕ). position (eqb i) (walk ns root)) m))
      (shown_here form ar root k v before lt few below (sv.is ∙ ap (λ (j : ℕ). shown_variable arena form j before) z) f));
}

texts_more : (ns : List Node) (seen : List ℕ) (k : ℕ) (xs : List ℕ) (x : ℕ)
    → node_texts ns seen k (xs ++ (x ∷ [])) ≡ node_texts ns seen k xs ++ node_text (k + length xs) (renumber (λ (y : ℕ). position (eqb y) seen) (node_at ns x))
texts_more ns seen k [] x = append-nil _ ∙ ap (λ (j : ℕ). node_text j (renumber (λ (y : ℕ). position (eqb y) seen) (node_at ns x))) (here k)
  where
    here : (k : ℕ) → k ≡ k + 0
    here k = omega arith
texts_more ns seen k (y ∷ ys) x =
    ap (λ (l : List ℕ). node_text k (renumber (λ (z : ℕ). position (eqb z) seen) (node_at ns y)) ++ l)
    (texts_more ns seen (suc k) ys x
    ∙ ap (λ (j : ℕ). node_texts ns seen (suc k) ys ++ node_text j (renumber (λ (z : ℕ). position (eqb z) seen) (node_at ns x))) (next k (length ys)))
    ∙ sym (append_assoc (node_text k (renumber (λ (z : ℕ). position (eqb z) seen) (node_at ns y))) (node_texts ns seen (suc k) ys) _)
  where
    next : (k n : ℕ) → suc k + n ≡ k + suc n
    next k n = omega arith

-- a node's variables, by its kind
one_variable : (n : Node) → Sort n → kind_of n ≡ 0 → length (variable_of n) ≡ 1
one_variable n (is_variable_lem v) h = refl
one_variable n (no_variable e same) h = by_kind n (λ (m : Node). length (variable_of m) ≡ 1) 0 h refl

no_variables : (n : Node) → Sort n → (kind_of n ≡ 0 → ⊥) → length (variable_of n) ≡ 0
no_variables n (is_variable_lem v) h = absurd (h refl)
no_variables n (no_variable e same) h = ap length e

-- how many variables there are with one node more
module _ {arena work : List ℕ} {k before y kind : ℕ} (at : y ≡ cell work (order_at + k)) (kd : Kind arena y kind) where
  count_turn : {q : Pass} {ns : List Node} {x n : ℕ} (ar : Arena arena q ns) (b : x < length ns) (nb : Numbered work (suc x) (walk ns x) n) → k < n
      → (c : ℕ) → length (variable_of (node_at ns y)) ≡ c → before ≡ vars_before ns x k → before + c ≡ vars_before ns x (k + 1)
  count_turn {ns = ns} {x} ar b nb lt c h f =
      let m = nb.count in
      let seen = walk ns x in
      let z : y ≡ get_or seen k 0 = at ∙ node_here ar b nb k lt in
      let more : take (k + 1) seen ≡ take k seen ++ (y ∷ []) =
      ap (λ (j : ℕ). take j seen) (add-one k) ∙ take-suc seen k 0 (omega arith) ∙ ap (λ (j : ℕ). take k seen ++ (j ∷ [])) (sym z) in
      let long = ap length (ap (variables_among ns) more ∙ among_last ns (take k seen) y) in
      omega (arith, long, length-append (variables_among ns (take k seen)) (variable_of (node_at ns y)))

  pub counts_one : {r : ℕ} → kind ≡ 0 → Sum before 1 r → CountsVariable arena work k before r
  counts_one {r} e s = record {
    is = λ {q} {ns} {x} ar b nb lt f.
        let low = few_nodes ar b nb k in
        let here : y < length ns = let g = node_below ar b nb k lt in let z = at ∙ node_here ar b nb k lt in omega arith in
        let is : r ≡ before + 1 = s.is (omega arith) in
        is ∙ count_turn ar b nb lt 1 (one_variable (node_at ns y) (sort_of (node_at ns y)) (sym (kd.is ar here) ∙ e)) f;
  }

  pub counts_none : (kind ≡ 0 → ⊥) → CountsVariable arena work k before before
  counts_none e = record {
    is = λ {q} {ns} {x} ar b nb lt f.
        let here : y < length ns = let g = node_below ar b nb k lt in let z = at ∙ node_here ar b nb k lt in omega arith in
        let same : before ≡ before + 0 = omega arith in
        same ∙ count_turn ar b nb lt 0 (no_variables (node_at ns y) (sort_of (node_at ns y)) (λ h. e (kd.is ar here ∙ h))) f;
  }

-- the lines of the first k nodes are written, among them so many variables'
pub record NodesWritten (arena work : List ℕ) (form : Form) (n vars k p : ℕ) (o o' : List ℕ) (r : ℕ) : Type 0 where
  pub counted : {q : Pass} {ns : List Node} {x : ℕ} → Arena arena q ns → x < length ns → Numbered work (suc x) (walk ns x) n → vars ≡ vars_before ns x k
  pub so : {q : Pass} {ns : List Node} {x : ℕ} → Arena arena q ns → x < length ns → Numbered work (suc x) (walk ns x) n
      → Wrote (node_texts (nodes_in form ns x) (walk ns x) 0 (take k (walk ns x))) p o o' r

module _ {arena work : List ℕ} {form : Form} {n p q vars k : ℕ} {o o₁ : List ℕ} (l : NodesWritten arena work form n vars k p o o₁ q) where
  pub node_lines_more : {r next : ℕ} {o₂ : List ℕ} → k < n → WroteNode arena work form k vars q o₁ o₂ r → CountsVariable arena work k vars next
      → NodesWritten arena work form n next (k + 1) p o o₂ r
  node_lines_more lt w v = record {
    counted = λ {q} {ns} {x} ar b nb. v.is ar b nb lt (l.counted ar b nb);
    so = λ {q} {ns} {x} ar b nb.
        let c = nb.count in
        let seen = walk ns x in
        let z : k ≡ 0 + length (take k seen) = let y = length-take-le k seen (omega arith) in omega arith in
        let ms = nodes_in form ns x in
        wrote_as (wrote_more (l.so ar b nb) (w.is ar b nb lt (l.counted ar b nb)))
        (ap (λ (j : ℕ). node_texts ms seen 0 (take k seen) ++ node_text j (renumber (λ (y : ℕ). position (eqb y) seen) (node_at ms (get_or seen k 0)))) z
        ∙ sym (texts_more ms seen 0 (take k seen) (get_or seen k 0))
        ∙ ap (node_texts ms seen 0) (sym (take-suc seen k 0 (omega arith)) ∙ ap (λ (j : ℕ). take j seen) (sym (add-one k))));
  }

  pub node_lines_done : n ≤ k → WroteNodes arena work form n p o o₁ q
  node_lines_done le = record {
    is = λ {q} {ns} {x} ar b nb.
        let c = nb.count in wrote_as (l.so ar b nb) (ap (node_texts (nodes_in form ns x) (walk ns x) 0) (take_all k (walk ns x) (omega arith)));
  }

pub root_lines_is : {arena work work₁ : List ℕ} {form : Form} {id sign n p q r : ℕ} {s : Shown} {o o₁ o₂ : List ℕ} → Walks arena work s.node work₁ n
    → Wrote (head_line id sign s n) p o o₁ q
    → WroteNodes arena work₁ form n q o₁ o₂ r → WroteRoot arena work form id sign s p o o₂ r
root_lines_is {form = form} {id} {sign} {s = s} v a b = record {
  is = λ {q} {ns} ar lt room.
      let nb = v.is ar room lt in
      let ms = nodes_in form ns s.node in
      wrote_as (wrote_more a (b.is ar lt nb))
      (ap (λ (m : ℕ). head_line id sign s m ++ node_texts ms (walk ns s.node) 0 (walk ns s.node)) nb.count
      ∙ sym (lines_in form id sign (shown_of s ns)));
}
