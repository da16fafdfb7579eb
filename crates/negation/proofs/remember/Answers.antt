use Rattle.negation.proofs.Turning.{notes}
use Rattle.negation.proofs.remember.Goals as goal

pub returns : goal.returns
returns c = search notes
