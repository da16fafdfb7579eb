use Rattle.simplify.proofs.Simplified.{simplified_sole}
use Rattle.simplify.proofs.intersections.simplified.Goals as goal

pub returns : goal.returns
returns c = search simplified_sole
