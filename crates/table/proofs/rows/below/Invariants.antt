-- `table::rows::below` meets its contract: the cells left are below the limit just where all are. Assumes nothing.
use Rattle.table.proofs.Cells.{Checking}
use Rattle.table.proofs.rows.below.Given as goal

abbrev pub invariant-loop-i : goal.invariant-loop-i
invariant-loop-i l = Checking l.words l.from l.to l.a l.step l.n l.limit l.p l.i
