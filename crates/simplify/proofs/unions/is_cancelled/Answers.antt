-- The rules' two lists, the positives and what the Negs hold, are not made: a search of the members, or of the Negs, asks the same of them.
use borrow.Author.Rules.{rules}
use Rattle.simplify.proofs.Asking.{any_pair}
use Rattle.simplify.proofs.Cancelled.{cancel_none, cancel_held, cancel_pair}
use Rattle.simplify.proofs.unions.is_cancelled.Goals as goal

pub returns-then-is_positive : goal.returns-then-is_positive
returns-then-is_positive c = search cancel_held

pub returns-else-is_positive : goal.returns-else-is_positive
returns-else-is_positive c = search cancel_none

pub returns-then-is_positive-2 : goal.returns-then-is_positive-2
returns-then-is_positive-2 c =
    cancel_pair c.is.ensures c.if-is.false c.is_positive-2.ensures c.if-is_positive-2.true (any_pair c.any_from.ensures (λ y b a. search rules))
