-- `table::ranges::var_known` meets its contract. Assumes nothing.
use Rattle.table.proofs.Knowing.{var_no, var_yes}
use Rattle.table.proofs.ranges.var_known.Goals as goal

pub returns : goal.returns
returns c = search var_yes

pub returns-then-not-below : goal.returns-then-not-below
returns-then-not-below c = search var_no
