-- What the Negs hold is what all members hold, so that asking the Negs alone is asking all.
use borrow.Author.Rules.{rules}
use Rattle.simplify.proofs.Asking.{any_beside}
use Rattle.simplify.proofs.Contradiction.{subsumed_none, subsumed_some}
use Rattle.simplify.proofs.intersections.any_subsumed.Goals as goal

pub returns-then-not-any_of_kind : goal.returns-then-not-any_of_kind
returns-then-not-any_of_kind c = search subsumed_none

pub returns : goal.returns
returns c = subsumed_some c.of_kind-negs.ensures (any_beside c.any_from.ensures (λ y b a. search rules))
