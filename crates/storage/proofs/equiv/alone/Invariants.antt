-- `storage::equiv::alone` meets its contract: each id that was passed is its own parent. Assumes nothing.
use Rattle.storage.proofs.Forests.{Lone}
use Rattle.storage.proofs.equiv.alone.Given as goal

abbrev pub invariant-loop-i : goal.invariant-loop-i
invariant-loop-i l = Lone l.initial.parent l.count l.parent l.i
