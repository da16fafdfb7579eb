use Rattle.factor.proofs.Factors.{any_many}
use Rattle.factor.proofs.sole_of_any.Goals as goal

pub returns-then-m-gt-MEMBERS : goal.returns-then-m-gt-MEMBERS
returns-then-m-gt-MEMBERS c = any_many c.if-m-gt-MEMBERS.true
