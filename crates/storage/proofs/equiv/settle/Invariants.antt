-- `storage::equiv::settle` meets its contract: the parent of each id that was passed is its representative, and finding another leaves it so. Assumes nothing.
use Rattle.storage.proofs.Forests.{Settling}
use mathlib.Core.Path.{◌≡◌}
use lib.ListN.{length}
use Rattle.storage.proofs.equiv.settle.Given as goal

abbrev pub invariant-loop-i : goal.invariant-loop-i
invariant-loop-i l = Settling l.initial.parent l.count l.parent l.i × (length l.parent ≡ length l.initial.parent)
