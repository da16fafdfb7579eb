use Rattle.negation.proofs.Turning.{recalls}
use Rattle.negation.proofs.recalled.Goals as goal

pub returns : goal.returns
returns c = search recalls
