-- Laws of the rows of nodes and of sets: what stands where, how long a row is, and that a row says its node. Assumes nothing.
use mathlib.Core.Path.{◌≡◌, refl, sym, ap, ap₂, ◌∙◌, subst}
use Prim.Native.Nat.{ℕ, zero, suc, ◌+◌, ◌*◌, ◌≤◌, ◌<◌}
use native.Mathlib.Omega.{arith}
use native.Mathlib.Nat.{not-suc-le-zero}
use mathlib.Core.List.{List, [], ◌∷◌, ◌++◌}
use lib.ListN.{length, get_or, drop, length-append}
use lib.Dec.{eqb}
use Rattle.cells.specs.Part.{if, cell, part}
use Rattle.cells.proofs.Holding.{holds_place, holds_head, holds_tail, holds_left, holds_right, holds_end}
use Rattle.rules.specs.Table.{Field, Attr, fields_at, dyn_at, dyn_place, open_place, attr_at, field_keys, field_types, dyn_ids}
use Rattle.rules.specs.Types.{Node, TyVar, Primitive, ListOf, Lambda, AttrSet, Union, Intersection, Named, Neg, Bottom, Top, field_words, dyn_words, attr_words, encode}
use Rattle.rules.specs.Types.{kind_of, members, children, cells_of}
use Rattle.cells.specs.Placed.{Holds}
use mathlib.Core.Option.{Option, none, some}

pub field_words_length : (fs : List Field) → length (field_words fs) ≡ 2 * length fs
field_words_length [] = refl
field_words_length (f ∷ fs) = let e = field_words_length fs in omega arith

pub dyn_words_length : (d : Option ℕ) → length (dyn_words d) ≡ 1 + length (dyn_ids d)
dyn_words_length none = refl
dyn_words_length (some d) = refl

pub attr_words_length : (t : Attr) → length (attr_words t) ≡ 4 + 2 * length t.fields + length (dyn_ids t.dyn) + length t.optional
attr_words_length t =
    let a = field_words_length t.fields in
    let b = dyn_words_length t.dyn in
    let rest = t.is_open ∷ length t.optional ∷ t.optional in
    let e = length-append (field_words t.fields ++ dyn_words t.dyn) rest in
    let f = length-append (field_words t.fields) (dyn_words t.dyn) in
    omega arith

pub few_dyns : (d : Option ℕ) → length (dyn_ids d) ≤ 1
few_dyns none = omega arith
few_dyns (some d) = omega arith

-- "at most 6 words besides its cells"
pub row_length_lem : (n : Node) → length (encode n) ≤ 6 + cells_of n
row_length_lem (TyVar x) = omega arith
row_length_lem (Primitive c) = omega arith
row_length_lem (ListOf a) = omega arith
row_length_lem (Lambda a b) = omega arith
row_length_lem (AttrSet t) = omega (arith, attr_words_length t, few_dyns t.dyn)
row_length_lem (Union ms) = omega arith
row_length_lem (Intersection ms) = omega arith
row_length_lem (Named n a) = omega arith
row_length_lem (Neg a) = omega arith
row_length_lem Bottom = omega arith
row_length_lem Top = omega arith

pub row_some : (n : Node) → 0 < length (encode n)
row_some (TyVar x) = omega arith
row_some (Primitive c) = omega arith
row_some (ListOf a) = omega arith
row_some (Lambda a b) = omega arith
row_some (AttrSet t) = omega arith
row_some (Union ms) = omega arith
row_some (Intersection ms) = omega arith
row_some (Named n a) = omega arith
row_some (Neg a) = omega arith
row_some Bottom = omega arith
row_some Top = omega arith

-- where the parts of a set stand
module _ {w : List ℕ} {p : ℕ} (t : Attr) (h : Holds w p (attr_words t)) where
  abbrev rest : List ℕ
  rest = t.is_open ∷ length t.optional ∷ t.optional

  pub set_count : cell w p ≡ length t.fields
  set_count = holds_head h

  before : Holds w (p + 1) (field_words t.fields ++ dyn_words t.dyn)
  before = holds_place (omega arith) (holds_left (field_words t.fields ++ dyn_words t.dyn) rest (holds_tail h))

  pub set_fields : Holds w (p + 1) (field_words t.fields)
  set_fields = holds_left (field_words t.fields) (dyn_words t.dyn) before

  pub set_dyn : Holds w (p + 1 + 2 * length t.fields) (dyn_words t.dyn)
  set_dyn = holds_place (omega (arith, field_words_length t.fields)) (holds_right (field_words t.fields) (dyn_words t.dyn) before)

  ending : Holds w (p + 1 + 2 * length t.fields + 1 + length (dyn_ids t.dyn)) rest
  ending =
      holds_place (omega (arith, length-append (field_words t.fields) (dyn_words t.dyn), field_words_length t.fields, dyn_words_length t.dyn))
      (holds_right (field_words t.fields ++ dyn_words t.dyn) rest (holds_tail h))

  pub set_open : cell w (p + 1 + 2 * length t.fields + 1 + length (dyn_ids t.dyn)) ≡ t.is_open
  set_open = holds_head ending

  pub set_optionals : cell w (p + 1 + 2 * length t.fields + 1 + length (dyn_ids t.dyn) + 1) ≡ length t.optional
  set_optionals = ap (cell w) (omega arith) ∙ holds_head (holds_tail ending)

  pub set_optional : Holds w (p + 1 + 2 * length t.fields + 1 + length (dyn_ids t.dyn) + 2) t.optional
  set_optional = holds_place (omega arith) (holds_tail (holds_tail ending))

-- whether there is a dyn, and which
pub dyns_read : {w : List ℕ} {p : ℕ} (d : Option ℕ) → Holds w p (dyn_words d) → cell w p ≡ length (dyn_ids d)
dyns_read none h = holds_head h
dyns_read (some d) h = holds_head h

dyn_read : {w : List ℕ} {p : ℕ} (d : Option ℕ) → Holds w p (dyn_words d) → dyn_at w p ≡ d
dyn_read {w} {p} none h = ap (λ (k : ℕ). if (eqb k 0) (λ _. none) (λ _. some (cell w (p + 1)))) (holds_head h)
dyn_read {w} {p} (some d) h =
    ap (λ (k : ℕ). if (eqb k 0) (λ _. none) (λ _. some (cell w (p + 1)))) (holds_head h)
    ∙ ap some (ap (cell w) (omega arith) ∙ holds_head (holds_tail h))

fields_read : {w : List ℕ} {p : ℕ} (fs : List Field) → Holds w p (field_words fs) → fields_at w p (length fs) ≡ fs
fields_read {w} {p = p} [] h = refl
fields_read {w} {p = p} (f ∷ fs) h =
    ap₂ {C = List Field} (λ (g : Field) (gs : List Field). g ∷ gs)
    (ap₂ {C = Field} (λ (k t : ℕ). record { key = k; type = t }) (holds_head h) (ap (cell w) (omega arith) ∙ holds_head (holds_tail h)))
    (fields_read {p = p + 2} fs (holds_place (omega arith) (holds_tail (holds_tail h))))

-- field i, its key and then its type
pub key_read : {w : List ℕ} {p : ℕ} (fs : List Field) (i : ℕ) → Holds w p (field_words fs) → i < length fs → cell w (p + 2 * i) ≡ get_or (field_keys fs) i 0
key_read [] i h lt = absurd (not-suc-le-zero lt)
key_read {w} {p} (f ∷ fs) zero h lt = ap (cell w) (omega arith) ∙ holds_head h
key_read {w} {p} (f ∷ fs) (suc i) h lt = ap (cell w) (omega arith) ∙ key_read fs i (holds_tail (holds_tail h)) (omega arith)

pub type_read : {w : List ℕ} {p : ℕ} (fs : List Field) (i : ℕ) → Holds w p (field_words fs) → i < length fs → cell w (p + 2 * i + 1) ≡ get_or (field_types fs) i 0
type_read [] i h lt = absurd (not-suc-le-zero lt)
type_read {w} {p} (f ∷ fs) zero h lt = ap (cell w) (omega arith) ∙ holds_head (holds_tail h)
type_read {w} {p} (f ∷ fs) (suc i) h lt = ap (cell w) (omega arith) ∙ type_read fs i (holds_tail (holds_tail h)) (omega arith)

-- which dyn, where there is one
pub dyn_type_read : {w : List ℕ} {p : ℕ} (d : Option ℕ) → Holds w p (dyn_words d) → 0 < length (dyn_ids d) → cell w (p + 1) ≡ get_or (dyn_ids d) 0 0
dyn_type_read none h lt = absurd (not-suc-le-zero lt)
dyn_type_read {w} {p} (some d) h lt = ap (cell w) (omega arith) ∙ holds_head (holds_tail h)

-- the words of a set say the set
pub set_read : {w : List ℕ} {p : ℕ} (t : Attr) → Holds w p (attr_words t) → attr_at w p ≡ t
unfolding attr_at
set_read {w} {p} t h =
    let d : dyn_place w p ≡ p + 1 + 2 * length t.fields = let e = set_count t h in omega arith in
    let o : open_place w (dyn_place w p) ≡ p + 1 + 2 * length t.fields + 1 + length (dyn_ids t.dyn) =
    let e = ap (cell w) d ∙ dyns_read t.dyn (set_dyn t h) in omega arith in
    λ i. record {
      fields = (ap (fields_at w (p + 1)) (set_count t h) ∙ fields_read t.fields (set_fields t h)) i;
      dyn = (ap (dyn_at w) d ∙ dyn_read t.dyn (set_dyn t h)) i;
      is_open = (ap (cell w) o ∙ set_open t h) i;
      optional = (ap₂ (λ (k m : ℕ). part w (k + 2) m) o (ap (λ (k : ℕ). cell w (k + 1)) o ∙ set_optionals t h) ∙ (set_optional t h).is) i;
    }

-- the node that a row says, by the number of its kind
abbrev pub node_by : ℕ → List ℕ → Node
node_by zero r = TyVar (cell r 1)
node_by (suc zero) r = Primitive (cell r 1)
node_by (suc (suc zero)) r = ListOf (cell r 1)
node_by (suc (suc (suc zero))) r = Lambda (cell r 1) (cell r 2)
node_by (suc (suc (suc (suc zero)))) r = AttrSet (attr_at r 1)
node_by (suc (suc (suc (suc (suc zero))))) r = Union (part r 2 (cell r 1))
node_by (suc (suc (suc (suc (suc (suc zero)))))) r = Intersection (part r 2 (cell r 1))
node_by (suc (suc (suc (suc (suc (suc (suc zero))))))) r = Named (cell r 1) (cell r 2)
node_by (suc (suc (suc (suc (suc (suc (suc (suc zero)))))))) r = Neg (cell r 1)
node_by (suc (suc (suc (suc (suc (suc (suc (suc (suc zero))))))))) r = Bottom
node_by (suc (suc (suc (suc (suc (suc (suc (suc (suc (suc k)))))))))) r = Top

-- a node is what its row says
pub node_read : (n : Node) → node_by (kind_of n) (encode n) ≡ n
node_read (TyVar x) = refl
node_read (Primitive c) = refl
node_read (ListOf a) = refl
node_read (Lambda a b) = refl
node_read (AttrSet t) = ap AttrSet (set_read t (holds_end (4 ∷ []) (attr_words t)))
node_read (Union ms) = ap Union (holds_end (5 ∷ length ms ∷ []) ms).is
node_read (Intersection ms) = ap Intersection (holds_end (6 ∷ length ms ∷ []) ms).is
node_read (Named n a) = refl
node_read (Neg a) = refl
node_read Bottom = refl
node_read Top = refl

-- nodes with equal rows are equal
pub encode_injective : (m n : Node) → encode m ≡ encode n → m ≡ n
encode_injective m n e = sym (node_read m) ∙ ap (λ (r : List ℕ). node_by (cell r 0) r) e ∙ node_read n

-- a node of kind k; what holds of what its row says, holds of it
pub node_of : (n : Node) (k : ℕ) → kind_of n ≡ k → node_by k (encode n) ≡ n
node_of n k e = ap (λ (j : ℕ). node_by j (encode n)) (sym e) ∙ node_read n

pub by_kind : (n : Node) (P : Node → Type 0) (k : ℕ) → kind_of n ≡ k → P (node_by k (encode n)) → P n
by_kind n P k e h = subst P (node_of n k e) h

-- the rows of a union and an intersection; a node of another kind has no members
pub union_row : (n : Node) → kind_of n ≡ 5 → encode n ≡ 5 ∷ length (members n) ∷ members n
union_row n e = by_kind n (λ (m : Node). encode m ≡ 5 ∷ length (members m) ∷ members m) 5 e refl

pub intersection_row : (n : Node) → kind_of n ≡ 6 → encode n ≡ 6 ∷ length (members n) ∷ members n
intersection_row n e = by_kind n (λ (m : Node). encode m ≡ 6 ∷ length (members m) ∷ members m) 6 e refl

pub no_members : (n : Node) → (kind_of n ≡ 5 → ⊥) → (kind_of n ≡ 6 → ⊥) → members n ≡ []
no_members (TyVar x) a b = refl
no_members (Primitive c) a b = refl
no_members (ListOf c) a b = refl
no_members (Lambda c d) a b = refl
no_members (AttrSet t) a b = refl
no_members (Union ms) a b = absurd (a refl)
no_members (Intersection ms) a b = absurd (b refl)
no_members (Named m c) a b = refl
no_members (Neg c) a b = refl
no_members Bottom a b = refl
no_members Top a b = refl

-- a node with members is a union or an intersection, and has them after its kind and their number
pub members_row : (n : Node) → 0 < length (members n) → encode n ≡ kind_of n ∷ length (members n) ∷ members n
members_row (TyVar x) h = absurd (not-suc-le-zero h)
members_row (Primitive c) h = absurd (not-suc-le-zero h)
members_row (ListOf a) h = absurd (not-suc-le-zero h)
members_row (Lambda a b) h = absurd (not-suc-le-zero h)
members_row (AttrSet t) h = absurd (not-suc-le-zero h)
members_row (Union ms) h = refl
members_row (Intersection ms) h = refl
members_row (Named m a) h = absurd (not-suc-le-zero h)
members_row (Neg a) h = absurd (not-suc-le-zero h)
members_row Bottom h = absurd (not-suc-le-zero h)
members_row Top h = absurd (not-suc-le-zero h)

-- the children of a node of another kind than these are its members
pub members_only : (n : Node) → (kind_of n ≡ 4 → ⊥) → (kind_of n ≡ 3 → ⊥) → (kind_of n ≡ 2 → ⊥) → (kind_of n ≡ 7 → ⊥) → (kind_of n ≡ 8 → ⊥) → children n ≡ members n
members_only (TyVar x) a b c d e = refl
members_only (Primitive x) a b c d e = refl
members_only (ListOf x) a b c d e = absurd (c refl)
members_only (Lambda x y) a b c d e = absurd (b refl)
members_only (AttrSet t) a b c d e = absurd (a refl)
members_only (Union ms) a b c d e = refl
members_only (Intersection ms) a b c d e = refl
members_only (Named m x) a b c d e = absurd (d refl)
members_only (Neg x) a b c d e = absurd (e refl)
members_only Bottom a b c d e = refl
members_only Top a b c d e = refl

-- and stand after the second word of its row
pub children_behind : (n : Node) → (kind_of n ≡ 2 → ⊥) → (kind_of n ≡ 3 → ⊥) → (kind_of n ≡ 8 → ⊥) → (kind_of n ≡ 4 → ⊥) → drop 2 (encode n) ≡ children n
children_behind (TyVar x) a b c d = refl
children_behind (Primitive x) a b c d = refl
children_behind (ListOf x) a b c d = absurd (a refl)
children_behind (Lambda x y) a b c d = absurd (b refl)
children_behind (AttrSet t) a b c d = absurd (d refl)
children_behind (Union ms) a b c d = refl
children_behind (Intersection ms) a b c d = refl
children_behind (Named m x) a b c d = refl
children_behind (Neg x) a b c d = absurd (c refl)
children_behind Bottom a b c d = refl
children_behind Top a b c d = refl
