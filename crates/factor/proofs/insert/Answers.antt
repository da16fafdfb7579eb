-- The rules' insert puts x before the first that is greater, and that is the place that was found.
use Rattle.factor.proofs.Factors.{inserts_is}
use Rattle.factor.proofs.insert.Goals as goal

pub returns : goal.returns
returns c = search inserts_is
