-- Entries read, and what the functions of storage.rt ensure.
use Rattle.std.specs.Prelude.{Option, Some, None}
use Rattle.std.specs.Prelude.{◌≡◌, Bool, ℕ, suc, ◌+◌, ◌<◌, List, ◌++◌, length, eqb}
use Rattle.cells.specs.Part.{cell, if}
use Rattle.rules.specs.Table.{Attr, var, prim, tyvar, list, fn, set, neg, named, inter, union, frozen}
use Rattle.rules.specs.Table as rules
use Rattle.rules.specs.Types.{Run}
use Rattle.rules.specs.Canonicalizer.{Reader, is_variable, is_atom, named_bound}
use Rattle.rules.specs.Canonicalizer as runs
use Rattle.rules.specs.declared.Polarity.{Polarity}
use Rattle.lang_ty.specs.Sets.{SetAt}
use Rattle.storage.specs.declared.given.Canon.{Canon}
use Rattle.storage.specs.declared.entries.Entry.{Entry}
use Rattle.storage.specs.declared.entries.Entry.TheVariants.{Variable, Primitive, TyVar, List as ListOf, Lambda, AttrSet, Neg, Named, Inter}
use Rattle.storage.specs.declared.entries.Entry.TheVariants.{Union, Frozen}
use Rattle.storage.specs.Passes.{ListAt, BoundsAt, Reads}
use Rattle.cells.specs.Placed.{Under}

pub record Row (table : List ℕ) (c : Canon) (id r : ℕ) : Type 0 where
  pub is : r ≡ cell table (c.base + id)

pub record KindAt (table : List ℕ) (c : Canon) (id r : ℕ) : Type 0 where
  pub is : r ≡ cell table (cell table (c.base + id))

-- whether entry id is a variable
pub record IsVar (table : List ℕ) (c : Canon) (id : ℕ) (r : Bool) : Type 0 where
  pub is : {t : Reader} → Reads table c t → id < c.count → r ≡ is_variable (t id)

pub record VariableIs (w : List ℕ) (v : ℕ) (e : rules.Entry) : Type 0 where
  pub lower : List ℕ
  pub upper : List ℕ
  pub is : e ≡ var lower upper
  pub bounds : BoundsAt w v lower upper

pub record SetIs (w : List ℕ) (a : ℕ) (e : rules.Entry) : Type 0 where
  pub set : Attr
  pub is : e ≡ rules.set set
  pub at : SetAt w a set

-- what an entry is read as
abbrev pub EntryIs : List ℕ → Entry → rules.Entry → Type 0
EntryIs w (Variable v) e = VariableIs w v e
EntryIs w (Primitive c) e = e ≡ prim c
EntryIs w (TyVar x) e = e ≡ tyvar x
EntryIs w (ListOf a) e = e ≡ list a
EntryIs w (Lambda a b) e = e ≡ fn a b
EntryIs w (AttrSet a) e = SetIs w a e
EntryIs w (Neg a) e = e ≡ neg a
EntryIs w (Named n a) e = e ≡ named n a
EntryIs w (Inter a b) e = e ≡ inter a b
EntryIs w (Union a b) e = e ≡ union a b
EntryIs w Frozen e = e ≡ frozen

pub record ReadAs (w : List ℕ) (e : Entry) (en : rules.Entry) : Type 0 where
  pub is : EntryIs w e en

-- an entry of two ids, or of one number and an id, by the number of its kind
abbrev pub entry_of_two : ℕ → ℕ → ℕ → Entry
entry_of_two k x y =
    if (eqb k 6) (λ _. Lambda x y)
    (λ _. if (eqb k 9) (λ _. Named x y)
    (λ _. if (eqb k 10) (λ _. Inter x y)
    (λ _. if (eqb k 11) (λ _. Union x y)
    (λ _. Frozen))))

pub record EntryOfTwo (kind x y : ℕ) (r : Entry) : Type 0 where
  pub is : r ≡ entry_of_two kind x y

-- TypeStorage::get
pub record EntryRead (table : List ℕ) (c : Canon) (id : ℕ) (r : Entry) : Type 0 where
  pub is : {t : Reader} → Reads table c t → id < c.count → ReadAs table r (t id)

pub record IsAtom (table : List ℕ) (c : Canon) (id : ℕ) (r : Bool) : Type 0 where
  pub is : {t : Reader} → Reads table c t → id < c.count → r ≡ is_atom t (t id)

pub record Uppers (table : List ℕ) (v r : ℕ) : Type 0 where
  pub is : {l : List ℕ} → ListAt table v l → r ≡ suc v + length l

-- the first of the bounds that is a Named, an entry
abbrev pub NamedIs : ℕ → Reader → List ℕ → Option ℕ → Type 0
NamedIs count t bs (Some b) = ((hit : ℕ → Run ℕ) (miss : Run ℕ) → named_bound t hit miss bs ≡ hit b) × (b < count)
NamedIs count t bs None = (hit : ℕ → Run ℕ) (miss : Run ℕ) → named_bound t hit miss bs ≡ miss

pub record FindsNamed (table : List ℕ) (c : Canon) (l : ℕ) (r : Option ℕ) : Type 0 where
  pub is : {t : Reader} {bs : List ℕ} → Reads table c t → ListAt table l bs → Under c.count bs → NamedIs c.count t bs r

pub record NamedBound (table : List ℕ) (c : Canon) (v : ℕ) (r : Option ℕ) : Type 0 where
  pub is : {t : Reader} {l u : List ℕ} → Reads table c t → BoundsAt table v l u → Under c.count l → Under c.count u → NamedIs c.count t (l ++ u) r

-- a variable is tried again in the other polarity
pub record Turned (table : List ℕ) (c : Canon) (id : ℕ) (pol r : Polarity) : Type 0 where
  pub is : {t : Reader} → Reads table c t → id < c.count → r ≡ runs.turned (t id) pol
