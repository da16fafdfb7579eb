-- Every entry with a link to one of the first i in the queue is in the queue; each stands there once, so count turns come to its end.
use Rattle.affected.proofs.Reaching.{Spreading}
use mathlib.Core.Path.{◌≡◌}
use Rattle.affected.proofs.Queue.spread.Given as goal

abbrev pub invariant-loop-i : goal.invariant-loop-i
invariant-loop-i l = Spreading l.initial.self.work.now l.n l.count l.initial.self.len l.self.work.now l.self.len l.i × (l.self.work.ghost_name ≡ l.initial.self.work.ghost_name)
