-- `table::kinds::row_of` meets its contract. Assumes nothing.
use Rattle.table.proofs.Lines.{row_by}
use Rattle.table.proofs.kinds.row_of.Goals as goal

pub returns : goal.returns
returns c = search row_by
