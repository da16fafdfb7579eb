-- `table::ranges::named_known` meets its contract. Assumes nothing.
use Rattle.table.proofs.Knowing.{named_no, named_yes}
use Rattle.table.proofs.ranges.named_known.Goals as goal

pub returns-then-below : goal.returns-then-below
returns-then-below c = search named_yes

pub returns-else-below : goal.returns-else-below
returns-else-below c = search named_no
