use Rattle.prepare.proofs.Facts.{first_pair_is}
use Rattle.prepare.proofs.first_pair.Goals as goal

pub returns : goal.returns
returns c = search first_pair_is
