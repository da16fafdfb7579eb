-- `table::rows::at` meets its contract. Assumes nothing.
use Rattle.table.proofs.Cells.{at_here, at_past}
use Rattle.table.proofs.rows.at.Goals as goal

pub returns-then-saturating_sub-k : goal.returns-then-saturating_sub-k
returns-then-saturating_sub-k c = search at_past

pub returns : goal.returns
returns c = search at_here
