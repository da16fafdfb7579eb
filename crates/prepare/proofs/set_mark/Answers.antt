use Rattle.prepare.proofs.Facts.{mark_in, mark_out}
use Rattle.prepare.proofs.set_mark.Goals as goal

pub returns-then-id-entries : goal.returns-then-id-entries
returns-then-id-entries c = search mark_in

pub returns-else-id-entries : goal.returns-else-id-entries
returns-else-id-entries c = search mark_out
