-- Marking what is left of the chain of links marks all of it; the links' numbers fall along the chain, so n turns come to its end.
use Rattle.affected.proofs.Queueing.{Before}
use mathlib.Core.Path.{◌≡◌}
use Rattle.affected.proofs.Queue.add_before.Given as goal

abbrev pub invariant-loop-i : goal.invariant-loop-i
invariant-loop-i l = Before l.initial.self.work.now l.n l.initial.self.len l.x l.self.work.now l.self.len l.e l.i × (l.self.work.ghost_name ≡ l.initial.self.work.ghost_name)
