-- `table::ranges::roots_known` meets its contract: the roots left say the same as all. Assumes nothing.
use Rattle.table.proofs.Knowing.{Roots}
use Rattle.table.proofs.ranges.roots_known.Given as goal

abbrev pub invariant-loop-i : goal.invariant-loop-i
invariant-loop-i l = Roots l.table l.t l.i
