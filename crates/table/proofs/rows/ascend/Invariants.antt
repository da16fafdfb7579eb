-- `table::rows::ascend` meets its contract: the cells left ascend just where all do. Assumes nothing.
use Rattle.table.proofs.Cells.{Ascending}
use Rattle.table.proofs.rows.ascend.Given as goal

abbrev pub invariant-loop-i : goal.invariant-loop-i
invariant-loop-i l = Ascending l.words l.from l.to l.a l.step l.n l.p l.i
