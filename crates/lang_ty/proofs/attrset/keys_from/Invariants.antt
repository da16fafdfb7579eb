-- The n keys that are left from p on say of k, and of each number above it, what all keys say.
use Rattle.lang_ty.proofs.Attrsets.{Passing}
use Rattle.lang_ty.proofs.attrset.keys_from.Given as goal

abbrev pub invariant-loop-n : goal.invariant-loop-n
invariant-loop-n l = Passing l.words (record { at = l.initial.p; left = l.initial.n }) l.step l.k l.p l.n

abbrev pub decreases-loop-n : goal.decreases-loop-n
decreases-loop-n l = l.n
