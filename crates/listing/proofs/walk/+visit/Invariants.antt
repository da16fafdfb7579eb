-- It ends since a child's number is below its node's. After i children just the nodes that the walk reaches by then have numbers.
use Rattle.listing.proofs.Numbering.{Visiting}
use Prim.Native.Nat.{◌-◌}
use Rattle.listing.proofs.walk.+visit.Given as goal

abbrev pub decreases-visit : goal.decreases-visit
decreases-visit l = l.x

abbrev pub invariant-loop-i : goal.invariant-loop-i
invariant-loop-i l = Visiting l.arena l.initial.work l.x l.k l.n l.work l.next l.i

abbrev pub decreases-loop-i : goal.decreases-loop-i
decreases-loop-i l = l.n - l.i
