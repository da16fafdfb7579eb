-- The words from i on are the same exactly if all are.
use Rattle.lang_ty.proofs.Find.{Comparing}
use Rattle.lang_ty.proofs.arena.same.Given as goal

abbrev pub invariant-loop-i : goal.invariant-loop-i
invariant-loop-i l = Comparing l.words l.a l.b l.n l.i
