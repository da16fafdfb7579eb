-- `table::read` meets its contract. Assumes nothing.
use Rattle.cells.proofs.Results.{same_err}
use Rattle.table.proofs.Whole.{read_few, read_long, read_no, read_out, read_yes}
use Rattle.table.proofs.read.Goals as goal

pub returns-then-text-gt-TEXT : goal.returns-then-text-gt-TEXT
returns-then-text-gt-TEXT c = search read_long

pub known_of-requires : goal.known_of-requires
known_of-requires c = search (read_few, c.in_ok-t.was)

pub returns-in_err-t : goal.returns-in_err-t
returns-in_err-t c =
    rw (same_err c.from_residual.result c.from_residual.ensures.1) (search (read_no, c.in_err-t.was))

pub returns-in_err-known_of : goal.returns-in_err-known_of
returns-in_err-known_of c =
    rw (same_err c.from_residual-in_err-known_of.result c.from_residual-in_err-known_of.ensures.1) (search (read_out, c.in_ok-t.was, c.in_err-known_of.was))

pub returns : goal.returns
returns c = search (read_yes, c.in_ok-t.was, c.in_ok-known_of.was)
