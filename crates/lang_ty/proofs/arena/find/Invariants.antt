-- The search from the node on whose link lies at p comes to what the search of the whole bucket comes to.
use Rattle.lang_ty.proofs.Find.{Walking}
use Rattle.lang_ty.proofs.arena.find.Given as goal

abbrev pub invariant-loop-p : goal.invariant-loop-p
invariant-loop-p l = Walking l.arena l.h l.top l.len l.p

abbrev pub decreases-loop-p : goal.decreases-loop-p
decreases-loop-p l = l.p
