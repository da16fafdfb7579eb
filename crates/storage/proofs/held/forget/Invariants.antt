-- `storage::held::forget` meets its contract: after i ids the marks of these are gone, and no cell but a mark has changed. Assumes nothing.
use Rattle.storage.proofs.HeldOnce.{Forgetting}
use mathlib.Core.Path.{◌≡◌}
use lib.ListN.{length}
use Rattle.storage.proofs.held.forget.Given as goal

abbrev pub invariant-loop-i : goal.invariant-loop-i
invariant-loop-i l = Forgetting l.initial.work l.h l.n l.work l.i × (length l.work ≡ length l.initial.work)
