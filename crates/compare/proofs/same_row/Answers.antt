use Rattle.compare.proofs.Comparing.{row_same}
use Rattle.compare.proofs.same_row.Goals as goal

pub returns : goal.returns
returns c = search row_same
