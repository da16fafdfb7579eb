-- The first i numbers stand from t on, and no word before t has changed.
use Rattle.lang_ty.proofs.Rows.{Copying}
use Rattle.lang_ty.proofs.arena.copy.Given as goal

abbrev pub invariant-loop-i : goal.invariant-loop-i
invariant-loop-i l = Copying l.t l.initial.words l.from l.a l.n l.words l.i
