use Rattle.simplify.proofs.Contradiction.{negated_not, negated_is}
use Rattle.simplify.proofs.pairs.is_negated_by.Goals as goal

pub returns-then-is : goal.returns-then-is
returns-then-is c = negated_is c.is.ensures c.if-is.true c.word.ensures c.is_output_subtype_or_equal.ensures

pub returns-else-is : goal.returns-else-is
returns-else-is c = negated_not c.is.ensures c.if-is.false
