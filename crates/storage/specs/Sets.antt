-- A set with answers in place of ids, and what the functions of sets.rt ensure.
use Rattle.std.specs.Prelude.{◌≡◌, ℕ, ◌+◌, ◌*◌, ◌≤◌, ◌<◌, List, [], ◌∷◌, length, set}
use Rattle.cells.specs.Part.{cell}
use Rattle.rules.specs.Table.{Field, Attr, attr_kids}
use Rattle.rules.specs.Types.{State, AttrSet, store}
use Rattle.laws.specs.Sound.{Orderly}
use Rattle.lang_ty.specs.declared.arena.Pass.{Pass}
use Rattle.lang_ty.specs.Given.{Given}
use Rattle.lang_ty.specs.Nodes.{Stands, Answers}
use Rattle.lang_ty.specs.Sets.{SetAt}
use Rattle.cells.specs.Placed.{Holds, Under}
use Rattle.std.proofs.Math.Option.{Option, none, some}

abbrev pub retype_fields : List Field → List ℕ → List Field
retype_fields [] xs = []
retype_fields (f ∷ fs) [] = f ∷ retype_fields fs []
retype_fields (f ∷ fs) (x ∷ xs) = record { key = f.key; type = x } ∷ retype_fields fs xs

abbrev pub retype_dyn : Option ℕ → ℕ → Option ℕ
retype_dyn none x = none
retype_dyn (some d) x = some x

-- the set with these answers: those of its fields, then that of its dyn
abbrev pub retyped : Attr → List ℕ → Attr
retyped t xs =
    record { fields = retype_fields t.fields xs; dyn = retype_dyn t.dyn (cell xs (length t.fields)); is_open = t.is_open; optional = t.optional }

-- n numbers held from h on, put two apart from the second cell after a on; no other cell changes
pub record PutsTypes (w : List ℕ) (a n : ℕ) (held : List ℕ) (h : ℕ) (w' : List ℕ) : Type 0 where
  pub same_length : length w' ≡ length w
  pub is : (i : ℕ) → i < n → 2 * n ≤ 4294967295 → a + 2 * i + 2 < length w → cell w' (a + 2 * i + 2) ≡ cell held (h + i)
  pub other : (k : ℕ) → 2 * n ≤ 4294967295 → ((i : ℕ) → i < n → k ≡ a + 2 * i + 2 → ⊥) → cell w' k ≡ cell w k

-- the number held after n others, put after the n fields of the set at a where there is a dyn
pub record PutsDyn (w : List ℕ) (a n dyns : ℕ) (held : List ℕ) (h : ℕ) (w' : List ℕ) : Type 0 where
  pub none : dyns ≡ 0 → w' ≡ w
  pub some : (dyns ≡ 0 → ⊥) → 2 * n + 2 ≤ 4294967295 → w' ≡ set w (a + (2 * n + 2)) (cell held (h + n))

-- the set of an entry, stored with these answers
pub record StoresSet (table : List ℕ) (a : ℕ) (w held : List ℕ) (h : ℕ) (q : Pass) (w' : List ℕ) (r : Given) : Type 0 where
  pub is : {st : State} {t : Attr} {xs : List ℕ} → Stands st w q → SetAt table a t → Orderly t → Holds held h xs → length xs ≡ length (attr_kids t)
      → Under q.nodes xs → Answers (store (AttrSet (retyped t xs)) st) w' r
