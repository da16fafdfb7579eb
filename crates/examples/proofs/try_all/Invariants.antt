-- A record has a byte at least, so the place moves on at each turn, and the counts, which never pass it, do not wrap.
use Rattle.std.proofs.Common.{◌-◌, ◌≤◌}
use Rattle.examples.proofs.try_all.Given as goal

abbrev pub invariant-loop-a : goal.invariant-loop-a
invariant-loop-a g l = (l.a ≤ l.n) × (l.tally.tried ≤ l.a) × (l.tally.differ ≤ l.a)

abbrev pub decreases-loop-a : goal.decreases-loop-a
decreases-loop-a g l = l.n - l.a
