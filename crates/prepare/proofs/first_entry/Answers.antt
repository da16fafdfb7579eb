use Rattle.prepare.proofs.Facts.{first_entry_is}
use Rattle.prepare.proofs.first_entry.Goals as goal

pub returns : goal.returns
returns c = search first_entry_is
