-- What a step that gives no node comes to.
use Rattle.std.specs.Prelude.{ℕ, Result, Ok, Err}
use Rattle.rules.specs.Refusals.{number}
use Rattle.rules.specs.declared.Refusal.{Refusal}
use Rattle.lang_ty.specs.declared.arena.Pass.{Pass}

-- the pass after it, or the number of a refusal
pub data Flow : Type 0 where
  On : Pass → Flow
  Refused : ℕ → Flow

abbrev pub flow : Result (Unit {0}) Refusal → Pass → Flow
flow (Ok u) q = On q
flow (Err k) q = Refused (number k)
