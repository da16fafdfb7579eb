-- `storage::equiv::find` meets its contract: each step stays in the class and comes nearer to its end, and no chain has as many steps as there are ids. Assumes nothing.
use Rattle.storage.proofs.Forests.{Climbing}
use mathlib.Core.Path.{◌≡◌}
use lib.ListN.{length}
use Rattle.storage.proofs.equiv.find.Given as goal

abbrev pub invariant-loop-i : goal.invariant-loop-i
invariant-loop-i l = Climbing l.initial.parent l.count l.id l.parent l.cur l.i × (length l.parent ≡ length l.initial.parent)
