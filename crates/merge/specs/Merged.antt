-- What a step of merging comes to.
use Rattle.std.specs.Prelude.{ℕ, Result, Ok, Err}
use Rattle.rules.specs.Refusals.{number}
use Rattle.rules.specs.declared.Refusal.{Refusal}
use Rattle.lang_ty.specs.declared.arena.Pass.{Pass}
use Rattle.merge.specs.declared.Merging.{Merging}

-- what was merged so far, with the pass after it, or the number of a refusal
pub data Merged : Type 0 where
  On : Merging → Pass → Merged
  Refused : ℕ → Merged

abbrev pub merged : Result Merging Refusal → Pass → Merged
merged (Ok g) q = On g q
merged (Err k) q = Refused (number k)
