-- Marking those from x on that differ is all that is left to do.
use Rattle.affected.proofs.Queueing.{Differing}
use mathlib.Core.Path.{◌≡◌}
use Rattle.affected.proofs.Queue.add_differing.Given as goal

abbrev pub invariant-loop-x : goal.invariant-loop-x
invariant-loop-x l = Differing l.old l.table l.initial.self.work.now l.c l.c.count l.self.work.now l.self.len l.x × (l.self.work.ghost_name ≡ l.initial.self.work.ghost_name)
