use Rattle.prepare.proofs.Facts.{first_root_is}
use Rattle.prepare.proofs.first_root.Goals as goal

pub returns : goal.returns
returns c = search first_root_is
