-- `table::judging::line` meets its contract. Assumes nothing.
use Rattle.cells.proofs.Results.{same_err}
use Rattle.table.proofs.Lines.{line_bad, line_fault, line_near, line_room, line_small, line_taken}
use Rattle.table.proofs.judging.line.Goals as goal

pub row_of-requires : goal.row_of-requires
row_of-requires c = search line_room

pub returns-in_default : goal.returns-in_default
returns-in_default c = search line_bad

pub overflow_add-q : goal.overflow_add-q
overflow_add-q c = record { fits = search (line_near, c.in_ok-q.was) }

pub overflow_cast-t : goal.overflow_cast-t
overflow_cast-t c = record { fits = search (line_small, c.in_ok-q.was) }

pub returns-in_err-q : goal.returns-in_err-q
returns-in_err-q c =
    rw (same_err c.from_residual.result c.from_residual.ensures.1) (search (line_fault, c.in_err-q.was))

pub returns : goal.returns
returns c =
    let ready = c.requires.ready in
    search (line_taken, c.in_ok-q.was)
