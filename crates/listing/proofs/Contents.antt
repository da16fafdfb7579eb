-- What stands after a node's keyword. Assumes nothing.
use mathlib.Core.Path.{◌≡◌, refl, sym, ap, ap₂, ◌∙◌}
use Prim.Native.Nat.{ℕ, suc, ◌+◌, ◌*◌, ◌<◌}
use native.Mathlib.Omega.{arith}
use mathlib.Core.List.{List, [], ◌∷◌, ◌++◌, map, append-nil, append_assoc}
use lib.ListN.{length, take, drop}
use lib.Seq.{take_all, take_at, drop_at}
use Rattle.cells.specs.Part.{cell, part}
use Rattle.cells.specs.Sum.{Sum}
use Rattle.cells.proofs.Holding.{holds_list, holds_tail}
use Rattle.rules.specs.Text.{tab, decimal, field_text, shape_texts, list_text, keyed_text, a_list, a_dyn, a_flag, some_fields}
use Rattle.rules.specs.Table.{Attr, dyn_ids}
use Rattle.rules.specs.Types.{Node, TyVar, Primitive, ListOf, Lambda, AttrSet, Union, Intersection, Named, Neg, Bottom, Top, encode, kind_of, members}
use Rattle.rules.specs.Types.{node_at, field_words, dyn_words, attr_words}
use Rattle.rules.specs.Variables.{with_variable}
use Rattle.rules.specs.Listing.{renumber, renumber_field, renumber_dyn}
use Rattle.laws.proofs.Rows.{field_words_length, attr_words_length, node_of, by_kind, node_by, encode_injective, union_row, intersection_row, set_dyn}
use Rattle.laws.proofs.Rows.{set_optional}
use Rattle.lang_ty.specs.declared.arena.Pass.{Pass}
use Rattle.lang_ty.specs.Nodes.{Arena, Word, Kind}
use Rattle.lang_ty.specs.Sets.{SetAt, DynPlace, Dyns, Open, OpenPlace, Optionals, dyn_from, open_from}
use Rattle.lang_ty.specs.Shapes.{SetPlace}
use Rattle.lang_ty.proofs.Words.{word_of, row_few, tyvar_at, primitive_at, neg_at, count_union, count_intersection}
use Rattle.lang_ty.proofs.Shapes.{set_at_lem}
use Rattle.listing.specs.Writes.{Wrote}
use Rattle.listing.specs.Walks.{number_of}
use Rattle.listing.specs.Printed.{tabbed, numbered, contents_text, WroteList, WroteFields, WroteSet, WroteContents}
use Rattle.listing.proofs.Texts.{wrote_none, wrote_more, wrote_as}
use Rattle.cells.specs.Placed.{Holds}
use mathlib.Core.Option.{Option, none, some}

-- a list of numbers as a field
list_field : (xs : List ℕ) → field_text a_list (take (1 + length xs) (length xs ∷ xs)) ≡ list_text (map decimal xs)
unfolding field_text
list_field xs = ap (field_text a_list) (take_all (1 + length xs) (length xs ∷ xs) (omega arith))

list_text_lem : (f : ℕ → ℕ) (ms : List ℕ) → tab ∷ list_text (map (λ (y : ℕ). decimal (f y)) ms) ≡ tabbed (shape_texts (a_list ∷ []) (length (map f ms) ∷ map f ms))
list_text_lem f ms =
    ap (λ (ps : List (List ℕ)). tab ∷ list_text ps) (both ms)
    ∙ sym (append-nil (tab ∷ list_text (map decimal (map f ms))))
    ∙ ap (λ (l : List ℕ). tab ∷ (l ++ [])) (sym (list_field (map f ms)))
  where
    both : (xs : List ℕ) → map (λ (y : ℕ). decimal (f y)) xs ≡ map decimal (map f xs)
    both [] = refl
    both (x ∷ xs) = ap (λ (l : List (List ℕ)). decimal (f x) ∷ l) (both xs)

-- the fields of a set's line
abbrev set_shape : List ℕ
set_shape = some_fields ∷ a_dyn ∷ a_flag ∷ a_list ∷ []

abbrev set_texts : Attr → List (List ℕ)
set_texts t =
    list_text (keyed_text (field_words t.fields)) ∷ list_text (map decimal (dyn_ids t.dyn)) ∷ decimal t.is_open ∷ list_text (map decimal t.optional) ∷ []

dyn_texts : (d : Option ℕ) (o : ℕ) (xs : List ℕ) → shape_texts (a_dyn ∷ a_flag ∷ a_list ∷ []) (dyn_words d ++ (o ∷ length xs ∷ xs))
    ≡ list_text (map decimal (dyn_ids d)) ∷ decimal o ∷ list_text (map decimal xs) ∷ []
unfolding field_text
dyn_texts none o xs = ap (λ (l : List ℕ). list_text [] ∷ decimal o ∷ l ∷ []) (list_field xs)
dyn_texts (some d) o xs = ap (λ (l : List ℕ). list_text (decimal d ∷ []) ∷ decimal o ∷ l ∷ []) (list_field xs)

set_texts_lem : (t : Attr) → shape_texts set_shape (attr_words t) ≡ set_texts t
unfolding field_text
set_texts_lem t =
    let n = length t.fields in
    let rest = t.is_open ∷ length t.optional ∷ t.optional in
    let e : 1 + 2 * n ≡ suc (2 * n) = omega arith in
    ap₂ {C = List (List ℕ)} (λ (k : ℕ) (l : List ℕ). field_text some_fields (take k (n ∷ l)) ∷ shape_texts (a_dyn ∷ a_flag ∷ a_list ∷ []) (drop k (n ∷ l)))
    e
    (append_assoc (field_words t.fields) (dyn_words t.dyn) rest)
    ∙ ap₂ {C = List (List ℕ)} (λ (a b : List ℕ). field_text some_fields (n ∷ a) ∷ shape_texts (a_dyn ∷ a_flag ∷ a_list ∷ []) b)
    (take_at (field_words t.fields) (dyn_words t.dyn ++ rest) (2 * n) (field_words_length t.fields))
    (drop_at (field_words t.fields) (dyn_words t.dyn ++ rest) (2 * n) (field_words_length t.fields))
    ∙ ap (λ (l : List (List ℕ)). list_text (keyed_text (field_words t.fields)) ∷ l) (dyn_texts t.dyn t.is_open t.optional)

-- the cells of a dyn
dyn_part : {w : List ℕ} {p : ℕ} (d : Option ℕ) → Holds w p (dyn_words d) → part w (suc p) (length (dyn_ids d)) ≡ dyn_ids d
dyn_part none h = refl
dyn_part (some d) h = (holds_tail h).is

dyn_renumbered : (f : ℕ → ℕ) (d : Option ℕ) → map (λ (y : ℕ). decimal (f y)) (dyn_ids d) ≡ map decimal (dyn_ids (renumber_dyn f d))
dyn_renumbered f none = refl
dyn_renumbered f (some d) = refl

-- a set's contents, part by part
module _ {w work : List ℕ} {a d e n g h m v p q₁ q₂ q₃ r : ℕ} {o o₁ o₂ o₃ o₄ : List ℕ} (fields : WroteFields w work a p o o₁ q₁)
    (dp : DynPlace w a d) (de : Sum d 1 e) (dn : Dyns w a n)
    (dyn : WroteList (numbered work) w e n q₁ o₁ o₂ q₂) (ov : Open w a v) (opened : Wrote (tab ∷ decimal v) q₂ o₂ o₃ q₃)
    (op : OpenPlace w a g) (oh : Sum g 2 h) (om : Optionals w a m) (keys : WroteList decimal w h m q₃ o₃ o₄ r) where
  module _ {t : Attr} (s : SetAt w a t) where
    dyn_is : part w e n ≡ dyn_ids t.dyn
    dyn_is =
        let b = s.fits in
        let l = attr_words_length t in
        let z : d ≡ dyn_from a t = dp.is s in
        let y : e ≡ d + 1 = de.is (omega arith) in
        let x : e ≡ suc (dyn_from a t) = omega arith in
        ap₂ {C = List ℕ} (part w) x (dn.is s) ∙ dyn_part t.dyn (set_dyn t s.words)

    keys_is : part w h m ≡ t.optional
    keys_is =
        let b = s.fits in
        let l = attr_words_length t in
        let z : g ≡ open_from a t = op.is s in
        let y : h ≡ g + 2 = oh.is (omega arith) in
        let x : h ≡ open_from a t + 2 = omega arith in
        ap₂ {C = List ℕ} (part w) x (om.is s) ∙ (set_optional t s.words).is

    abbrev renumbered : Attr
    renumbered = record {
      fields = map (renumber_field (number_of work)) t.fields;
      dyn = renumber_dyn (number_of work) t.dyn;
      is_open = t.is_open;
      optional = t.optional;
    }

    dyn_written : Wrote (tab ∷ list_text (map decimal (dyn_ids renumbered.dyn))) q₁ o₁ o₂ q₂
    dyn_written =
        wrote_as dyn.is
        (ap (λ (l : List ℕ). tab ∷ list_text (map (numbered work) l)) dyn_is
        ∙ ap (λ (l : List (List ℕ)). tab ∷ list_text l) (dyn_renumbered (number_of work) t.dyn))

    whole : Wrote (contents_text (renumber (number_of work) (AttrSet t))) p o o₄ r
    whole =
        wrote_as
        (wrote_more (wrote_more (wrote_more (fields.is s) dyn_written) (wrote_as opened (ap (λ (k : ℕ). tab ∷ decimal k) (ov.is s))))
        (wrote_as keys.is (ap (λ (l : List ℕ). tab ∷ list_text (map decimal l)) keys_is)))
        (together
        (list_text (keyed_text (field_words renumbered.fields)))
        (list_text (map decimal (dyn_ids renumbered.dyn)))
        (decimal t.is_open)
        (list_text (map decimal t.optional))
        ∙ ap tabbed (sym (set_texts_lem renumbered)))
      where
        together : (a b c d : List ℕ) → (tab ∷ a) ++ (tab ∷ b) ++ (tab ∷ c) ++ (tab ∷ d) ≡ tabbed (a ∷ b ∷ c ∷ d ∷ [])
        together a b c d = simp (append_assoc, append-nil)

  pub set_contents_is : WroteSet w work a p o o₄ r
  set_contents_is = record { is = λ s. whole s }

-- a node's words, by its kind
module _ {w : List ℕ} {q : Pass} {ns : List Node} {x : ℕ} (h : Arena w q ns) (lt : x < length ns) where
  word_at : {r : ℕ} (k i : ℕ) → ((row : List ℕ) → i < length (encode (node_by k row))) → kind_of (node_at ns x) ≡ k → Word w x i r
      → r ≡ cell (encode (node_at ns x)) i
  word_at k i long e a = word_of h a lt (by_kind (node_at ns x) (λ (m : Node). i < length (encode m)) k e (long (encode (node_at ns x))))

  list_at : {a : ℕ} → kind_of (node_at ns x) ≡ 2 → Word w x 1 a → ListOf a ≡ node_at ns x
  list_at e a = ap ListOf (word_at 2 1 (λ row. omega arith) e a) ∙ node_of (node_at ns x) 2 e

  lambda_at : {a b : ℕ} → kind_of (node_at ns x) ≡ 3 → Word w x 1 a → Word w x 2 b → Lambda a b ≡ node_at ns x
  lambda_at e a b = ap₂ {C = Node} Lambda (word_at 3 1 (λ row. omega arith) e a) (word_at 3 2 (λ row. omega arith) e b) ∙ node_of (node_at ns x) 3 e

  named_at : {a b : ℕ} → kind_of (node_at ns x) ≡ 7 → Word w x 1 a → Word w x 2 b → Named a b ≡ node_at ns x
  named_at e a b = ap₂ {C = Node} Named (word_at 7 1 (λ row. omega arith) e a) (word_at 7 2 (λ row. omega arith) e b) ∙ node_of (node_at ns x) 7 e

  -- the members, after a row's first two words
  members_at_lem : {v p n : ℕ} (k : ℕ) → encode (node_at ns x) ≡ k ∷ length (members (node_at ns x)) ∷ members (node_at ns x) → v ≡ cell w x → Sum v 2 p
      → n ≡ length (members (node_at ns x)) → part w p n ≡ members (node_at ns x)
  members_at_lem {v} {p} {n} k row e s c =
      let b = row_few h x lt in
      let l = ap length row in
      let z : p ≡ v + 2 = s.is (omega arith) in
      let y : p ≡ suc (suc (cell w x)) = omega arith in
      ap₂ {C = List ℕ} (part w) y c ∙ (holds_tail (holds_tail (holds_list row (h.rows x lt)))).is

contents_none : (f : ℕ → ℕ) (v : ℕ) (n : Node) → 8 < kind_of n → [] ≡ contents_text (renumber f (with_variable (λ _. v) n))
contents_none f v (TyVar x) h = absurd (omega arith)
contents_none f v (Primitive c) h = absurd (omega arith)
contents_none f v (ListOf a) h = absurd (omega arith)
contents_none f v (Lambda a b) h = absurd (omega arith)
contents_none f v (AttrSet t) h = absurd (omega arith)
contents_none f v (Union ms) h = absurd (omega arith)
contents_none f v (Intersection ms) h = absurd (omega arith)
contents_none f v (Named n a) h = absurd (omega arith)
contents_none f v (Neg a) h = absurd (omega arith)
contents_none f v Bottom h = refl
contents_none f v Top h = refl

-- a node's contents, v for its variable
abbrev shown_text : List ℕ → ℕ → Node → List ℕ
shown_text work v n = contents_text (renumber (number_of work) (with_variable (λ _. v) n))

-- the node n in place of node x
here : (work : List ℕ) (ns : List Node) (x v : ℕ) {t : List ℕ} (n : Node) → t ≡ shown_text work v n → n ≡ node_at ns x → t ≡ shown_text work v (node_at ns x)
here work ns x v n e f = e ∙ ap (shown_text work v) f

-- a node's contents, kind by kind
module _ {arena work : List ℕ} {x k v : ℕ} (kd : Kind arena x k) where
  as_node : {t : List ℕ} {p r : ℕ} {o o' : List ℕ} → Wrote t p o o' r
      → ((q : Pass) (ns : List Node) → Arena arena q ns → x < length ns → kind_of (node_at ns x) ≡ k
      → t ≡ shown_text work v (node_at ns x)) → WroteContents arena work x v p o o' r
  as_node g f = record { is = λ {q} {ns} ar lt. wrote_as g (f q ns ar lt (sym (kd.is ar lt))) }

  module _ {a p r : ℕ} {o o' : List ℕ} (wa : Word arena x 1 a) where
    pub contents_tyvar : k ≡ 0 → Wrote (tab ∷ decimal v) p o o' r → WroteContents arena work x v p o o' r
    unfolding field_text
    contents_tyvar e g = as_node g (λ q ns ar lt f. here work ns x v (TyVar a) (sym (append-nil (tab ∷ decimal v))) (tyvar_at ar lt (f ∙ e) wa))

    pub contents_primitive : k ≡ 1 → Wrote (tab ∷ decimal a) p o o' r → WroteContents arena work x v p o o' r
    unfolding field_text
    contents_primitive e g = as_node g (λ q ns ar lt f. here work ns x v (Primitive a) (sym (append-nil (tab ∷ decimal a))) (primitive_at ar lt (f ∙ e) wa))

    pub contents_list : k ≡ 2 → Wrote (tab ∷ numbered work a) p o o' r → WroteContents arena work x v p o o' r
    unfolding field_text
    contents_list e g = as_node g (λ q ns ar lt f. here work ns x v (ListOf a) (sym (append-nil (tab ∷ numbered work a))) (list_at ar lt (f ∙ e) wa))

    pub contents_neg : k ≡ 8 → Wrote (tab ∷ numbered work a) p o o' r → WroteContents arena work x v p o o' r
    unfolding field_text
    contents_neg e g = as_node g (λ q ns ar lt f. here work ns x v (Neg a) (sym (append-nil (tab ∷ numbered work a))) (neg_at ar lt (f ∙ e) wa))

    module _ {b q : ℕ} {o₁ : List ℕ} (wb : Word arena x 2 b) where
      pub contents_lambda : k ≡ 3 → Wrote (tab ∷ numbered work a) p o o₁ q → Wrote (tab ∷ numbered work b) q o₁ o' r → WroteContents arena work x v p o o' r
      unfolding field_text
      contents_lambda e g h = as_node (wrote_more g h)
          (λ _ ns ar lt f.
          here work ns x v (Lambda a b) (ap (λ (l : List ℕ). tab ∷ (numbered work a ++ l)) (sym (append-nil (tab ∷ numbered work b))))
          (lambda_at ar lt (f ∙ e) wa wb))

      pub contents_named : k ≡ 7 → Wrote (tab ∷ decimal a) p o o₁ q → Wrote (tab ∷ numbered work b) q o₁ o' r → WroteContents arena work x v p o o' r
      unfolding field_text
      contents_named e g h = as_node (wrote_more g h)
          (λ _ ns ar lt f.
          here work ns x v (Named a b) (ap (λ (l : List ℕ). tab ∷ (decimal a ++ l)) (sym (append-nil (tab ∷ numbered work b))))
          (named_at ar lt (f ∙ e) wa wb))

    module _ {c m : ℕ} (at : c ≡ cell arena x) (s : Sum c 2 m) (l : WroteList (numbered work) arena m a p o o' r) where
      pub contents_union : k ≡ 5 → WroteContents arena work x v p o o' r
      contents_union e = as_node l.is
          (λ q ns ar lt f.
          let row = union_row (node_at ns x) (f ∙ e) in
          here work ns x v (Union (members (node_at ns x)))
          (ap (λ (xs : List ℕ). tab ∷ list_text (map (numbered work) xs)) (members_at_lem ar lt 5 row at s ((count_union kd e wa).is ar lt))
          ∙ list_text_lem (number_of work) (members (node_at ns x)))
          (encode_injective (Union (members (node_at ns x))) (node_at ns x) (sym row)))

      pub contents_intersection : k ≡ 6 → WroteContents arena work x v p o o' r
      contents_intersection e = as_node l.is
          (λ q ns ar lt f.
          let row = intersection_row (node_at ns x) (f ∙ e) in
          here work ns x v (Intersection (members (node_at ns x)))
          (ap (λ (xs : List ℕ). tab ∷ list_text (map (numbered work) xs)) (members_at_lem ar lt 6 row at s ((count_intersection kd e wa).is ar lt))
          ∙ list_text_lem (number_of work) (members (node_at ns x)))
          (encode_injective (Intersection (members (node_at ns x))) (node_at ns x) (sym row)))

  pub contents_set : {a p r : ℕ} {o o' : List ℕ} → k ≡ 4 → SetPlace arena x a → WroteSet arena work a p o o' r → WroteContents arena work x v p o o' r
  contents_set e s g = record {
    is = λ {q} {ns} ar lt.
        let f = sym (kd.is ar lt) ∙ e in
        wrote_as (g.is (set_at_lem ar lt f s)) (ap (shown_text work v) (node_of (node_at ns x) 4 f));
  }

  pub contents_empty : {p : ℕ} {o : List ℕ} → 8 < k → WroteContents arena work x v p o o p
  contents_empty {p} {o} h = as_node (wrote_none p o)
      (λ q ns ar lt f. contents_none (number_of work) v (node_at ns x) (omega arith))
