-- The cells before j are in their new places, and v is the one that gives way.
use Rattle.factor.proofs.Factors.{Putting}
use Prim.Native.Nat.{◌-◌}
use mathlib.Core.Path.{◌≡◌}
use lib.ListN.{length}
use Rattle.factor.proofs.put_in.Given as goal

abbrev pub invariant-loop-j : goal.invariant-loop-j
invariant-loop-j l = Putting l.initial.s l.i l.n l.x l.s l.v l.j × (length l.s ≡ length l.initial.s)

abbrev pub decreases-loop-j : goal.decreases-loop-j
decreases-loop-j l = l.n - l.j
