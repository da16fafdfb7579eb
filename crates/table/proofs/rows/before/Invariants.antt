-- `table::rows::before` meets its contract: what is left to compare says the same as the whole. Assumes nothing.
use Rattle.table.proofs.Cells.{Comparing}
use Prim.Native.Nat.{◌-◌}
use Rattle.table.proofs.rows.before.Given as goal

abbrev pub invariant-loop-i : goal.invariant-loop-i
invariant-loop-i l = Comparing l.words l.a l.m l.b l.t l.i l.k

abbrev pub decreases-loop-i : goal.decreases-loop-i
decreases-loop-i l = l.m - l.i
