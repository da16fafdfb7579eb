-- What a list comes to that is settled.
use Rattle.std.specs.Prelude.{ℕ, Option, Result, Ok, Err}
use Rattle.rules.specs.Refusals.{number}
use Rattle.rules.specs.declared.Refusal.{Refusal}
use Rattle.lang_ty.specs.declared.arena.Pass.{Pass}
use Rattle.composites.specs.declared.lists.Ending.{Ending}
use Rattle.composites.specs.declared.lists.Ending.TheVariants.{Node as Made, Empty as Emptied}

-- a node, or nothing that is left beside its first member before filtering, with the pass after it; or the number of a refusal
pub data Settled : Type 0 where
  Node : ℕ → Pass → Settled
  Empty : Option ℕ → Pass → Settled
  Refused : ℕ → Settled

abbrev pub settled : Result Ending Refusal → Pass → Settled
settled (Ok (Made x)) q = Node x q
settled (Ok (Emptied y)) q = Empty y q
settled (Err k) q = Refused (number k)
