-- `storage::held::first_of_each` meets its contract: after i ids the first of each among them is held, and just these are marked. Assumes nothing.
use Rattle.storage.proofs.HeldOnce.{Firsting}
use mathlib.Core.Path.{◌≡◌}
use lib.ListN.{length}
use Rattle.storage.proofs.held.first_of_each.Given as goal

abbrev pub invariant-loop-i : goal.invariant-loop-i
invariant-loop-i l = Firsting l.initial.work l.h l.n l.work l.k l.i × (length l.work ≡ length l.initial.work)
