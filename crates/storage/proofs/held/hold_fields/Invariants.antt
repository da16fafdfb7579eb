-- `storage::held::hold_fields` meets its contract: after i children these are held in order, the fields before the dyn. Assumes nothing.
use Rattle.storage.proofs.HeldIds.{Fielding}
use Prim.Native.Nat.{◌≤◌}
use mathlib.Core.Path.{◌≡◌}
use lib.ListN.{length}
use Rattle.storage.proofs.held.hold_fields.Given as goal

abbrev pub invariant-loop-i : goal.invariant-loop-i
invariant-loop-i l = Fielding l.table l.a l.initial.work l.h l.f l.n l.work l.i × (l.n ≤ 4294967295) × (length l.work ≡ length l.initial.work)
