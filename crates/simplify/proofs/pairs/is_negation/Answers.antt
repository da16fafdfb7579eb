use Rattle.simplify.proofs.Cancelled.{negates_not, negates_is}
use Rattle.simplify.proofs.pairs.is_negation.Goals as goal

pub returns-then-is : goal.returns-then-is
returns-then-is c = negates_is c.is.ensures c.if-is.true c.word.ensures

pub returns-else-is : goal.returns-else-is
returns-else-is c = negates_not c.is.ensures c.if-is.false
