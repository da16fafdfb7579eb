-- AttrSetTy in a row, of a table's entry or of a node, and what the functions of attrset.rt ensure.
use Rattle.std.specs.Prelude.{◌≡◌, Bool, true, ◌||◌, ◌⊎◌, ℕ, zero, suc, ◌+◌, ◌*◌, ◌≤◌, ◌<◌, List, [], ◌∷◌, length, get_or}
use Rattle.cells.specs.Part.{cell}
use Rattle.rules.specs.Plain.{all, contains, ascending}
use Rattle.rules.specs.Table.{Attr, field_keys, field_types, dyn_ids}
use Rattle.rules.specs.Types.{attr_words}
use Rattle.cells.specs.Placed.{Holds}
use Rattle.laws.specs.Sound.{Orderly}
use Rattle.lang_ty.specs.declared.attrset.Keys.{Keys}
use Rattle.lang_ty.specs.declared.attrset.Walk.{Walk}

-- the set t stands in w from a on, at places that are numbers of a row
pub record SetAt (w : List ℕ) (a : ℕ) (t : Attr) : Type 0 where
  pub words : Holds w a (attr_words t)
  pub fits : a + length (attr_words t) ≤ 4294967295

-- where the dyn and the open flag stand
abbrev pub dyn_from : ℕ → Attr → ℕ
dyn_from a t = a + 1 + 2 * length t.fields

abbrev pub open_from : ℕ → Attr → ℕ
open_from a t = dyn_from a t + 1 + length (dyn_ids t.dyn)

pub record Fields (w : List ℕ) (a r : ℕ) : Type 0 where
  pub is : {t : Attr} → SetAt w a t → r ≡ length t.fields

pub record Key (w : List ℕ) (a i r : ℕ) : Type 0 where
  pub is : {t : Attr} → SetAt w a t → i < length t.fields → r ≡ get_or (field_keys t.fields) i 0

pub record FieldType (w : List ℕ) (a i r : ℕ) : Type 0 where
  pub is : {t : Attr} → SetAt w a t → i < length t.fields → r ≡ get_or (field_types t.fields) i 0

pub record DynPlace (w : List ℕ) (a r : ℕ) : Type 0 where
  pub is : {t : Attr} → SetAt w a t → r ≡ dyn_from a t

-- 1 where there is a dyn, 0 where there is none
pub record Dyns (w : List ℕ) (a r : ℕ) : Type 0 where
  pub is : {t : Attr} → SetAt w a t → r ≡ length (dyn_ids t.dyn)

pub record DynType (w : List ℕ) (a r : ℕ) : Type 0 where
  pub is : {t : Attr} → SetAt w a t → 0 < length (dyn_ids t.dyn) → r ≡ get_or (dyn_ids t.dyn) 0 0

pub record OpenPlace (w : List ℕ) (a r : ℕ) : Type 0 where
  pub is : {t : Attr} → SetAt w a t → r ≡ open_from a t

pub record Open (w : List ℕ) (a r : ℕ) : Type 0 where
  pub is : {t : Attr} → SetAt w a t → r ≡ t.is_open

pub record Optionals (w : List ℕ) (a r : ℕ) : Type 0 where
  pub is : {t : Attr} → SetAt w a t → r ≡ length t.optional

-- n cells from a on, step apart, and the place after them
abbrev pub apart : List ℕ → ℕ → ℕ → ℕ → List ℕ
apart w step a zero = []
apart w step a (suc n) = cell w a ∷ apart w step (a + step) n

abbrev pub reach : ℕ → ℕ → ℕ → ℕ
reach step a zero = a
reach step a (suc n) = reach step (a + step) n

-- the keys ks, so many from a place on
abbrev pub keys_at : List ℕ → ℕ → Keys → List ℕ
keys_at w step ks = apart w step ks.at ks.left

-- the keys ks are what is left of a list that ascends: of b and of each number above it they say what the whole says
pub record Ahead (w : List ℕ) (step : ℕ) (ks : Keys) (whole : List ℕ) (b : ℕ) : Type 0 where
  pub fits : reach step ks.at ks.left ≤ 4294967295
  pub ascend : ascending (keys_at w step ks) ≡ true
  pub same : (k : ℕ) → b ≤ k → contains (keys_at w step ks) k ≡ contains whole k

pub record FieldKeys (w : List ℕ) (a : ℕ) (r : Keys) : Type 0 where
  pub is : {t : Attr} → SetAt w a t → Orderly t → Ahead w 2 r (field_keys t.fields) 0

pub record OptionalKeys (w : List ℕ) (a : ℕ) (r : Keys) : Type 0 where
  pub is : {t : Attr} → SetAt w a t → Orderly t → Ahead w 1 r t.optional 0

-- what is left from k on
pub record KeysFrom (w : List ℕ) (ks : Keys) (step k : ℕ) (r : Keys) : Type 0 where
  pub is : {whole : List ℕ} {b : ℕ} → Ahead w step ks whole b → b ≤ k → Ahead w step r whole k
  pub first : {whole : List ℕ} {b : ℕ} → Ahead w step ks whole b → b ≤ k → 0 < r.left → k ≤ cell w r.at

-- whether k is among those that are left, of which none is below it
pub record Starts (w : List ℕ) (ks : Keys) (k : ℕ) (r : Bool) : Type 0 where
  pub is : (step : ℕ) {whole : List ℕ} → Ahead w step ks whole k → (0 < ks.left → k ≤ cell w ks.at) → r ≡ contains whole k
  pub here : r ≡ true → (0 < ks.left) × (cell w ks.at ≡ k)

pub record BehindFirst (ks : Keys) (step : ℕ) (r : Keys) : Type 0 where
  pub is : {w whole : List ℕ} {k : ℕ} → Ahead w step ks whole k → 0 < ks.left → cell w ks.at ≡ k → Ahead w step r whole (suc k)

pub record HasField (w : List ℕ) (a k : ℕ) (r : Bool) : Type 0 where
  pub is : {t : Attr} → SetAt w a t → Orderly t → r ≡ contains (field_keys t.fields) k

-- one key further along the optional keys os and the other set's keys ks
pub record Walked (w : List ℕ) (walk : Walk) (k : ℕ) (r : Walk) : Type 0 where
  pub optional : {os ks : List ℕ} {b : ℕ} → Ahead w 1 walk.optional os b → Ahead w 2 walk.other ks b → b ≤ k → Ahead w 1 r.optional os (suc k)
  pub other : {os ks : List ℕ} {b : ℕ} → Ahead w 1 walk.optional os b → Ahead w 2 walk.other ks b → b ≤ k → Ahead w 2 r.other ks (suc k)
  pub is : {os ks : List ℕ} {b : ℕ} → Ahead w 1 walk.optional os b → Ahead w 2 walk.other ks b → b ≤ k → r.covered ≡ contains os k || contains ks k

pub record Least (a b r : ℕ) : Type 0 where
  pub first : r ≤ a
  pub second : r ≤ b
  pub one : (r ≡ a) ⊎ (r ≡ b)

-- the first r keys of the sets at a and b are the same
pub record AlikeFields (w : List ℕ) (a b n r : ℕ) : Type 0 where
  pub few : r ≤ n
  pub is : (j : ℕ) → j < r → cell w (a + 1 + 2 * j) ≡ cell w (b + 1 + 2 * j)

-- all optional keys of the set at a are left, and of the m keys of the set at b those behind the first r
pub record WalkBehind (w : List ℕ) (a b m r : ℕ) (walk : Walk) : Type 0 where
  pub optional : {t : Attr} → SetAt w a t → Orderly t → Ahead w 1 walk.optional t.optional 0
  pub at : b + 1 + 2 * m ≤ 4294967295 → walk.other.at ≡ b + 1 + 2 * r
  pub left : walk.other.left + r ≡ m

-- field k of the set t is not required, or is one of u's too
abbrev pub covers : Attr → Attr → ℕ → Bool
covers t u k = contains t.optional k || contains (field_keys u.fields) k

pub record FieldsCover (w : List ℕ) (a b : ℕ) (r : Bool) : Type 0 where
  pub is : {t u : Attr} → SetAt w a t → SetAt w b u → Orderly t → Orderly u → r ≡ all (covers t u) (field_keys t.fields)
