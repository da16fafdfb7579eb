-- The flags of the first i roots are the marks of their entries, and no cell before the flags or after those of i roots has changed.
use Rattle.affected.proofs.Reaching.{Flagging}
use mathlib.Core.Path.{◌≡◌}
use lib.ListN.{length}
use Rattle.affected.proofs.flag_roots.Given as goal

abbrev pub invariant-loop-i : goal.invariant-loop-i
invariant-loop-i l = Flagging l.table l.work l.initial.spans l.first l.roots l.spans l.i × (length l.spans ≡ length l.initial.spans)
