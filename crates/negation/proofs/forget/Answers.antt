use Rattle.negation.proofs.Turning.{forgets_none, forgets_all}
use Rattle.negation.proofs.forget.Goals as goal

pub returns-then-count-ne0 : goal.returns-then-count-ne0
returns-then-count-ne0 c = search forgets_all

pub returns-else-count-ne0 : goal.returns-else-count-ne0
returns-else-count-ne0 c = search forgets_none
