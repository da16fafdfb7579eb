-- Chains of bounds or children: which roots are redone, said plainly beside the search that `redone` computes.
use Rattle.std.specs.Prelude.{◌≡◌, true, ℕ}
use mathlib.Core.List.{Memᴰ}
use Rattle.rules.specs.Table.{Table, entry_of, kids}
use Rattle.rules.specs.Calls.{row_at, differs}

-- k is a bound or a child of the entry id
abbrev pub StepsTo : Table → ℕ → ℕ → Type 0
StepsTo t id k = Memᴰ k (kids (entry_of (row_at t id)))

-- a chain of bounds or children, of no steps or more, from an id to another
pub data Chain (t : Table) : ℕ → ℕ → Type 0 where
  here : {id : ℕ} → Chain t id id
  onward : {id k j : ℕ} → StepsTo t id k → Chain t k j → Chain t id j

-- a chain of bounds or children from id meets an entry that differs
pub record MeetsDifference (old new : Table) (id : ℕ) : Type 0 where
  pub met : ℕ
  pub chain : Chain old id met
  pub different : differs old new met ≡ true
