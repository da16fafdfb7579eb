-- Reading a node: its words are its row's. Assumes nothing.
use mathlib.Core.Path.{◌≡◌, sym, ap, ap₂, ◌∙◌}
use mathlib.Core.Logic.{◌⊎◌, ⊎_elim}
use mathlib.Core.Bool.{Bool}
use Prim.Native.Nat.{ℕ, zero, suc, ◌+◌, ◌-◌, ◌≤◌, ◌<◌}
use native.Mathlib.Omega.{arith}
use mathlib.Core.List.{List, [], ◌∷◌}
use lib.ListN.{length, get_or}
use lib.Dec.{eqb}
use Rattle.cells.specs.Part.{cell}
use Rattle.cells.specs.Sum.{Sum}
use Rattle.cells.proofs.Holding.{holds_at}
use Rattle.layout.specs.Layout.{arena_words}
use Rattle.rules.specs.Types.{Node, TyVar, Primitive, Neg, encode, kind_of, members, node_at}
use Rattle.laws.proofs.Rows.{node_by, node_of, by_kind, row_some, union_row, intersection_row, no_members, members_row}
use Rattle.lang_ty.specs.declared.arena.OutputTy.{OutputTy}
use Rattle.lang_ty.specs.declared.arena.OutputTy.TheVariants as kinds
use Rattle.lang_ty.specs.declared.arena.Pass.{Pass}
use Rattle.lang_ty.proofs.Codes.{kind_small, other}
use Rattle.lang_ty.specs.Nodes.{code, highest, Arena, Word, Kind, Is, Count, Member}

module _ {w : List ℕ} {q : Pass} {ns : List Node} (h : Arena w q ns) where
  -- the places ascend
  up : (d i : ℕ) → i + d ≡ length ns → cell w i ≤ cell w (length ns)
  up zero i e = let f : i ≡ length ns = omega arith in let g = ap (cell w) f in omega arith
  up (suc d) i e = omega (arith, h.ends i (omega arith), up d (suc i) (omega arith))

  -- and lie after them all
  pub low : (i : ℕ) → i ≤ length ns → arena_words ≤ cell w i
  low zero le = h.first
  low (suc i) le = omega (arith, h.ends i (omega arith), low i (omega arith))

  pub high : arena_words ≤ cell w q.nodes
  high = let z = ap (cell w) h.count in omega (arith, low (length ns) (omega arith))

  -- a row ends before the top
  pub row_end : (i : ℕ) → i < length ns → cell w i + length (encode (node_at ns i)) ≤ cell w q.nodes
  row_end i lt = let f = ap (cell w) h.count in omega (arith, h.ends i lt, up (length ns - suc i) (suc i) (omega arith))

  pub row_few : (i : ℕ) → i < length ns → cell w i + length (encode (node_at ns i)) ≤ highest
  row_few i lt = omega (arith, row_end i lt, h.top, h.few, h.cells)

  pub word_of : {x i r : ℕ} → Word w x i r → x < length ns → i < length (encode (node_at ns x)) → r ≡ get_or (encode (node_at ns x)) i 0
  word_of {x} {i} a lt b = a.is ∙ holds_at (h.rows x lt) i b

  -- a node of a kind and one number, by its kind and that word
  one_at : {x r : ℕ} (k : ℕ) → ((row : List ℕ) → 1 < length (encode (node_by k row))) → x < length ns → kind_of (node_at ns x) ≡ k → Word w x 1 r
      → node_by k (k ∷ r ∷ []) ≡ node_by k (k ∷ get_or (encode (node_at ns x)) 1 0 ∷ [])
  one_at {x} k long lt e a =
      ap (λ (v : ℕ). node_by k (k ∷ v ∷ []))
      (word_of a lt (by_kind (node_at ns x) (λ (m : Node). 1 < length (encode m)) k e (long (encode (node_at ns x)))))

  module _ {x r : ℕ} (lt : x < length ns) where
    pub tyvar_at : kind_of (node_at ns x) ≡ 0 → Word w x 1 r → TyVar r ≡ node_at ns x
    tyvar_at e a = one_at 0 (λ row. omega arith) lt e a ∙ node_of (node_at ns x) 0 e

    pub primitive_at : kind_of (node_at ns x) ≡ 1 → Word w x 1 r → Primitive r ≡ node_at ns x
    primitive_at e a = one_at 1 (λ row. omega arith) lt e a ∙ node_of (node_at ns x) 1 e

    pub neg_at : kind_of (node_at ns x) ≡ 8 → Word w x 1 r → Neg r ≡ node_at ns x
    neg_at e a = one_at 8 (λ row. omega arith) lt e a ∙ node_of (node_at ns x) 8 e

-- the first word of a node is its kind's number
first_word : {w : List ℕ} {x j : ℕ} → Word w x 0 j → Kind w x j
first_word {x = x} a = record { is = λ {q} {ns} h lt. word_of h a lt (row_some (node_at ns x)) }

pub kind_is : {w : List ℕ} {x j r : ℕ} → Word w x 0 j → (j ≤ 10 → r ≡ j) → Kind w x r
kind_is {x = x} a f = record { is = λ {q} {ns} h lt. let e = (first_word a).is h lt in f (omega (arith, kind_small (node_at ns x))) ∙ e }

pub is_is : {w : List ℕ} {n k x j : ℕ} {r : Bool} → Word w x 0 j → n ≡ k → r ≡ eqb j n → Is w k x r
is_is a f e = record { is = λ h lt. e ∙ ap₂ eqb ((first_word a).is h lt) f }

-- the number of members where the row has it, and where there are none
counted : {w : List ℕ} {x r j : ℕ} {q : Pass} {ns : List Node} → Word w x 1 r → Arena w q ns → x < length ns
    → encode (node_at ns x) ≡ j ∷ length (members (node_at ns x)) ∷ members (node_at ns x) → r ≡ length (members (node_at ns x))
counted a h lt e = word_of h a lt (let z = ap length e in omega arith) ∙ ap (λ (l : List ℕ). get_or l 1 0) e

pub count_union : {w : List ℕ} {x k r : ℕ} → Kind w x k → k ≡ 5 → Word w x 1 r → Count w x r
count_union {x = x} a e b = record { is = λ {q} {ns} h lt. counted b h lt (union_row (node_at ns x) (sym (a.is h lt) ∙ e)) }

pub count_intersection : {w : List ℕ} {x k r : ℕ} → Kind w x k → k ≡ 6 → Word w x 1 r → Count w x r
count_intersection {x = x} a e b = record { is = λ {q} {ns} h lt. counted b h lt (intersection_row (node_at ns x) (sym (a.is h lt) ∙ e)) }

-- a kind by its number
pub numbered : {w : List ℕ} {x j k : ℕ} → Kind w x k → j ≡ k → Kind w x j
numbered a e = record { is = λ h lt. e ∙ a.is h lt }

module _ {w : List ℕ} {x : ℕ} {k : OutputTy} (a : Kind w x (code k)) where
  pub count_some : {r : ℕ} → (k ≡ kinds.Union) ⊎ (k ≡ kinds.Intersection) → Word w x 1 r → Count w x r
  count_some e b = ⊎_elim (λ u. count_union a (ap code u) b) (λ u. count_intersection a (ap code u) b) e

  pub count_none : (k ≡ kinds.Union → ⊥) → (k ≡ kinds.Intersection → ⊥) → Count w x 0
  count_none e f =
      record {
        is = λ {q} {ns} h lt.
            let g = a.is h lt in
            sym (ap length (no_members (node_at ns x) (λ z. other kinds.Union e (g ∙ z)) (λ z. other kinds.Intersection f (g ∙ z))));
      }

pub member_is : {w : List ℕ} {x i j r : ℕ} → Sum i 2 j → Word w x j r → Member w x i r
member_is {x = x} {i} {j} a b =
    record {
      is = λ {q} {ns} h lt few.
          let e = members_row (node_at ns x) (omega arith) in
          let z = ap length e in
          let f : j ≡ suc (suc i) = a.is (omega (arith, row_few h x lt)) ∙ omega arith in
          word_of h b lt (omega arith) ∙ ap₂ (λ (l : List ℕ) (k : ℕ). get_or l k 0) e f;
    }

-- a pass of the same nodes and cells
pub arena_pass : {w : List ℕ} {q p : Pass} {ns : List Node} → q.nodes ≡ p.nodes → q.cells ≡ p.cells → Arena w q ns → Arena w p ns
arena_pass {w} e f a =
    record {
      count = a.count ∙ e;
      few = omega (arith, a.few);
      cells = omega (arith, a.cells);
      first = a.first;
      rows = a.rows;
      ends = a.ends;
      top = let g = ap (cell w) e in omega (arith, a.top);
      below = a.below;
      slim = a.slim;
      distinct = a.distinct;
      ordered = a.ordered;
      index = a.index;
      room = a.room;
    }
