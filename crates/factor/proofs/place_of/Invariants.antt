-- x goes into the span that is left, until that has no cell.
use Rattle.factor.proofs.Factors.{Seeking}
use Prim.Native.Nat.{◌-◌}
use Rattle.factor.proofs.place_of.Given as goal

abbrev pub invariant-loop-span : goal.invariant-loop-span
invariant-loop-span l = Seeking l.arena l.s l.n l.x l.span

abbrev pub decreases-loop-span : goal.decreases-loop-span
decreases-loop-span l = l.span.high - l.span.low
