-- `table::ranges::set_known` meets its contract. Assumes nothing.
use Rattle.table.proofs.Knowing.{set_no, set_yes}
use Rattle.table.proofs.ranges.set_known.Goals as goal

pub returns-then-below : goal.returns-then-below
returns-then-below c = search set_yes

pub returns-else-below : goal.returns-else-below
returns-else-below c = search set_no
