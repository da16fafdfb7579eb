use Rattle.prepare.proofs.Facts.{first_mark_is}
use Rattle.prepare.proofs.first_mark.Goals as goal

pub returns : goal.returns
returns c = search first_mark_is
