-- What is left of both key lists says of the fields from i on what the whole lists say.
use Rattle.lang_ty.proofs.Attrsets.{Covering}
use Prim.Native.Nat.{◌-◌}
use Rattle.lang_ty.proofs.attrset.fields_cover.Given as goal

abbrev pub invariant-loop-i : goal.invariant-loop-i
invariant-loop-i l = Covering l.words l.a l.b l.n l.i l.w

abbrev pub decreases-loop-i : goal.decreases-loop-i
decreases-loop-i l = l.n - l.i
