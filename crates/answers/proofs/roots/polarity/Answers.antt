use Rattle.answers.proofs.Running.{positive_is, negative_is}
use Rattle.answers.proofs.roots.polarity.Goals as goal

pub returns-then-sign-eq0 : goal.returns-then-sign-eq0
returns-then-sign-eq0 c = positive_is c.if-sign-eq0.true

pub returns-else-sign-eq0 : goal.returns-else-sign-eq0
returns-else-sign-eq0 c = negative_is c.if-sign-eq0.false
