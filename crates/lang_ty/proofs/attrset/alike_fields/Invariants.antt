-- The first r keys are the same; two cells are read at i, which is twice r.
use Rattle.lang_ty.proofs.Attrsets.{Comparing}
use mathlib.Core.Path.{◌≡◌}
use Prim.Native.Nat.{◌+◌, ◌-◌}
use Rattle.lang_ty.proofs.attrset.alike_fields.Given as goal

abbrev pub invariant-loop-r : goal.invariant-loop-r
invariant-loop-r l = (l.i ≡ l.r + l.r) × Comparing l.words l.a l.b l.n l.i l.r

abbrev pub decreases-loop-r : goal.decreases-loop-r
decreases-loop-r l = l.n - l.r
