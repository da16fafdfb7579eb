-- `table::ranges::keys_known` meets its contract. Assumes nothing.
use Rattle.table.proofs.Knowing.{keyset_no, keyset_yes}
use Rattle.table.proofs.ranges.keys_known.Goals as goal

pub returns-then-below : goal.returns-then-below
returns-then-below c = search keyset_yes

pub returns-else-below : goal.returns-else-below
returns-else-below c = search keyset_no
