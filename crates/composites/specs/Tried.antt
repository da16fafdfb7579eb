-- What an intersection comes to that is tried.
use Rattle.std.specs.Prelude.{ℕ, Option, Result, Ok, Err}
use Rattle.rules.specs.Refusals.{number}
use Rattle.rules.specs.declared.Refusal.{Refusal}
use Rattle.lang_ty.specs.declared.arena.Pass.{Pass}
use Rattle.composites.specs.declared.binary.Outcome.{Outcome}
use Rattle.composites.specs.declared.binary.Outcome.TheVariants.{Node as Made, Contradiction as Contradicted}

-- a node, or a contradiction with the first member of all, with the pass after it; or the number of a refusal
pub data Tried : Type 0 where
  Node : ℕ → Pass → Tried
  Contradiction : Option ℕ → Pass → Tried
  Refused : ℕ → Tried

abbrev pub tried : Result Outcome Refusal → Pass → Tried
tried (Ok (Made x)) q = Node x q
tried (Ok (Contradicted y)) q = Contradiction y q
tried (Err k) q = Refused (number k)
