-- `table::judging::lines_of` meets its contract: the rows, and the lines left, come to what the whole text says. Assumes nothing.
use lib.ListN.{length}
use Prim.Native.Nat.{◌-◌}
use Rattle.table.proofs.Lines.{Walking}
use Rattle.table.proofs.judging.lines_of.Given as goal

abbrev pub invariant-loop-from : goal.invariant-loop-from
invariant-loop-from l = Walking l.text l.initial.table l.table l.from l.p

abbrev pub decreases-loop-from : goal.decreases-loop-from
decreases-loop-from l = length l.text - l.from
