-- `table::ranges::entries_known` meets its contract: the entries left say the same as all. Assumes nothing.
use Rattle.table.proofs.Knowing.{Entries}
use Rattle.table.proofs.ranges.entries_known.Given as goal

abbrev pub invariant-loop-i : goal.invariant-loop-i
invariant-loop-i l = Entries l.table l.t l.i
