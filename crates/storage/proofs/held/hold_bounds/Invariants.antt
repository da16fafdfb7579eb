-- `storage::held::hold_bounds` meets its contract: after i bounds the wanted ones among them are held, and nothing below h has changed. Assumes nothing.
use Rattle.storage.proofs.HeldIds.{Bounding}
use mathlib.Core.Path.{◌≡◌}
use lib.ListN.{length}
use Rattle.storage.proofs.held.hold_bounds.Given as goal

abbrev pub invariant-loop-i : goal.invariant-loop-i
invariant-loop-i g l = Bounding (λ b x. goal.F-post g l.wanted b x) l.table l.initial.work l.h l.l l.n l.work l.k l.i × (length l.work ≡ length l.initial.work)
