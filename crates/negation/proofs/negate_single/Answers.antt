use Rattle.negation.proofs.Turning.{single_neg, single_wrapped}
use Rattle.negation.proofs.negate_single.Goals as goal

pub returns-then-is : goal.returns-then-is
returns-then-is c = search single_neg

pub returns : goal.returns
returns c = search single_wrapped
