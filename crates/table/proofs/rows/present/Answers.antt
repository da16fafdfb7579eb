-- `table::rows::present` meets its contract. Assumes nothing.
use Rattle.table.proofs.Entries.{present_is}
use Rattle.table.proofs.rows.present.Goals as goal

pub returns : goal.returns
returns c = present_is c.args.x c.min.ensures
