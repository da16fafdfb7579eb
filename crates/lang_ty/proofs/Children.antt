-- A node's children, return by return. Assumes nothing.
use mathlib.Core.Path.{◌≡◌, refl, sym, ap, ◌∙◌}
use mathlib.Core.Logic.{◌⊎◌, ⊎_elim}
use Prim.Native.Nat.{ℕ, ◌+◌, ◌≤◌, ◌<◌}
use native.Mathlib.Omega.{arith}
use mathlib.Core.List.{List}
use lib.ListN.{length, get_or, length-append, length-drop, length-map, get_or-append}
use lib.Seq.{get_or-drop, get_or-append-add}
use Rattle.cells.specs.Sum.{Sum}
use Rattle.rules.specs.Table.{Field, Attr, attr_kids, field_types, dyn_ids}
use Rattle.rules.specs.Types.{Node, encode, children, node_at}
use Rattle.laws.proofs.Rows.{attr_words_length, few_dyns, node_by, node_of, members_only}
use Rattle.lang_ty.specs.declared.arena.OutputTy.{OutputTy}
use Rattle.lang_ty.specs.declared.arena.OutputTy.TheVariants as kinds
use Rattle.lang_ty.specs.declared.arena.Pass.{Pass}
use Rattle.lang_ty.specs.Nodes.{code, Arena, Word, Kind, Count}
use Rattle.lang_ty.specs.Sets.{SetAt, Fields, FieldType, Dyns, DynType}
use Rattle.lang_ty.specs.Shapes.{SetPlace}
use Rattle.lang_ty.specs.Orders.{FirstChild, Children, ChildAt}
use Rattle.lang_ty.proofs.Codes.{other}
use Rattle.lang_ty.proofs.Words.{row_few, word_of}
use Rattle.lang_ty.proofs.Shapes.{set_of, set_at_lem}

pub kids_length : (t : Attr) → length (attr_kids t) ≡ length t.fields + length (dyn_ids t.dyn)
kids_length t = omega (arith, length-append (field_types t.fields) (dyn_ids t.dyn), length-map t.fields (λ (f : Field). f.type))

-- of a kind that settles their number
fixed : {w : List ℕ} {x k r : ℕ} → Kind w x k → (j : ℕ) → k ≡ j → ((row : List ℕ) → r ≡ length (children (node_by j row))) → Children w x r
fixed {x = x} a j e f =
    record { is = λ {q} {ns} h lt. f (encode (node_at ns x)) ∙ ap (λ (m : Node). length (children m)) (node_of (node_at ns x) j (sym (a.is h lt) ∙ e)) }

module _ {w : List ℕ} {x : ℕ} {k : OutputTy} (a : Kind w x (code k)) where
  pub children_lambda : k ≡ kinds.Lambda → Children w x 2
  children_lambda e = fixed a 3 (ap code e) (λ row. refl)

  pub children_one : (k ≡ kinds.List) ⊎ ((k ≡ kinds.Named) ⊎ (k ≡ kinds.Neg)) → Children w x 1
  children_one e =
      ⊎_elim (λ z. fixed a 2 (ap code z) (λ row. refl))
      (λ f. ⊎_elim (λ z. fixed a 7 (ap code z) (λ row. refl)) (λ z. fixed a 8 (ap code z) (λ row. refl)) f) e

  pub children_members : {r : ℕ} → (k ≡ kinds.AttrSet → ⊥) → (k ≡ kinds.Lambda → ⊥) → (k ≡ kinds.List → ⊥) → (k ≡ kinds.Named → ⊥) → (k ≡ kinds.Neg → ⊥)
      → Count w x r → Children w x r
  children_members b c d e f g =
      record {
        is = λ {q} {ns} h lt.
            let z = a.is h lt in
            g.is h lt
            ∙ sym
            (ap length
            (members_only (node_at ns x) (λ y. other kinds.AttrSet b (z ∙ y)) (λ y. other kinds.Lambda c (z ∙ y)) (λ y. other kinds.List d (z ∙ y))
            (λ y. other kinds.Named e (z ∙ y)) (λ y. other kinds.Neg f (z ∙ y))));
      }

  pub child_word : {i f j r : ℕ} → (k ≡ kinds.AttrSet → ⊥) → FirstChild (code k) f → Sum i f j → Word w x j r → ChildAt w x i r
  child_word {i} {f} {j} b first sum c =
      record {
        is = λ {q} {ns} h lt few.
            let n = node_at ns x in
            let e = first.is n (sym (a.is h lt)) (other kinds.AttrSet b) in
            let l = length-drop f (encode n) in
            let m = ap length e in
            let small = first.small in
            let in_row : f + i < length (encode n) = omega arith in
            let z : j ≡ f + i = sum.is (omega (arith, row_few h x lt)) ∙ omega arith in
            word_of h c lt (omega arith) ∙ ap (λ (p : ℕ). get_or (encode n) p 0) z ∙ sym (get_or-drop f (encode n) i 0) ∙ ap (λ (l : List ℕ). get_or l i 0) e;
      }

  -- of a set
  module _ (e : k ≡ kinds.AttrSet) {p : ℕ} (place : SetPlace w x p) where
    here : {q : Pass} {ns : List Node} (h : Arena w q ns) (lt : x < length ns) → SetAt w p (set_of ns x)
    here h lt = set_at_lem h lt (sym (a.is h lt) ∙ ap code e) place

    kids : {q : Pass} {ns : List Node} (h : Arena w q ns) (lt : x < length ns) → attr_kids (set_of ns x) ≡ children (node_at ns x)
    kids {q} {ns} h lt = ap children (node_of (node_at ns x) 4 (sym (a.is h lt) ∙ ap code e))

    pub children_set : {n d r : ℕ} → Fields w p n → Dyns w p d → Sum n d r → Children w x r
    children_set f g sum =
        record {
          is = λ {q} {ns} h lt.
              let t = set_of ns x in
              let at = here h lt in
              let y = f.is at in
              let z = g.is at in
              let l = attr_words_length t in
              let fits = at.fits in
              let few = few_dyns t.dyn in
              sum.is (omega arith) ∙ omega (arith, kids_length t) ∙ ap length (kids h lt);
        }

    pub child_field : {n i r : ℕ} → Fields w p n → i < n → FieldType w p i r → ChildAt w x i r
    child_field {n} {i} f few g =
        record {
          is = λ {q} {ns} h lt in_all.
              let t = set_of ns x in
              let at = here h lt in
              let y = f.is at in
              g.is at (omega arith)
              ∙ sym (get_or-append (field_types t.fields) (dyn_ids t.dyn) 0 i (omega (arith, length-map t.fields (λ (f : Field). f.type))))
              ∙ ap (λ (l : List ℕ). get_or l i 0) (kids h lt);
        }

    pub child_dyn : {n i r : ℕ} → Fields w p n → n ≤ i → DynType w p r → ChildAt w x i r
    child_dyn {n} {i} f few g =
        record {
          is = λ {q} {ns} h lt in_all.
              let t = set_of ns x in
              let at = here h lt in
              let y = f.is at in
              let l = ap length (kids h lt) in
              let m = kids_length t in
              let one = few_dyns t.dyn in
              let z : length (field_types t.fields) + 0 ≡ i = omega (arith, length-map t.fields (λ (f : Field). f.type)) in
              g.is at (omega arith)
              ∙ sym (get_or-append-add (field_types t.fields) (dyn_ids t.dyn) 0 0)
              ∙ ap (λ (j : ℕ). get_or (attr_kids t) j 0) z
              ∙ ap (λ (l : List ℕ). get_or l i 0) (kids h lt);
        }
