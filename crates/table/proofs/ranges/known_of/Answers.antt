-- `table::ranges::known_of` meets its contract. Assumes nothing.
use Rattle.cells.proofs.Results.{same_err}
use Rattle.table.proofs.Whole.{known_no, known_yes}
use Rattle.table.proofs.ranges.known_of.Goals as goal

pub returns-in_err-entries_known : goal.returns-in_err-entries_known
returns-in_err-entries_known c =
    rw (same_err c.from_residual.result c.from_residual.ensures.1) (known_no c.entries_known.ensures c.in_err-entries_known.was)

pub returns : goal.returns
returns c = search (known_yes, c.in_ok-entries_known.was)
