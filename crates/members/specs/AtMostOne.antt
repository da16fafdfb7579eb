-- What a step that gives one node or none comes to.
use Rattle.std.specs.Prelude.{ℕ, Option, Some, None, Result, Ok, Err}
use Rattle.rules.specs.Refusals.{number}
use Rattle.rules.specs.declared.Refusal.{Refusal}
use Rattle.lang_ty.specs.declared.arena.Pass.{Pass}

-- no node, or one, with the pass after it; or the number of a refusal
pub data AtMostOne : Type 0 where
  Nothing : Pass → AtMostOne
  One : ℕ → Pass → AtMostOne
  Refused : ℕ → AtMostOne

abbrev pub at_most_one : Result (Option ℕ) Refusal → Pass → AtMostOne
at_most_one (Ok None) q = Nothing q
at_most_one (Ok (Some x)) q = One x q
at_most_one (Err k) q = Refused (number k)
