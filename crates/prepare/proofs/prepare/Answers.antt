-- Only facts are written, and they lie before the rows: what was read stands there still, and runs read it as the rules read the table.
use Rattle.prepare.proofs.Facts.{prepare_is}
use Rattle.prepare.proofs.prepare.Goals as goal

pub returns : goal.returns
returns c = search prepare_is
