-- `table::judging::start` meets its contract. Assumes nothing.
use Rattle.table.proofs.Whole.{started}
use Rattle.table.proofs.judging.start.Goals as goal

pub returns : goal.returns
returns c = search started
