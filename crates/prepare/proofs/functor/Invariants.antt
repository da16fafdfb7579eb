-- The names from i on, counted from there, give the number that all names give.
use Rattle.prepare.proofs.Facts.{Seeking}
use Rattle.prepare.proofs.functor.Given as goal

abbrev pub invariant-loop-i : goal.invariant-loop-i
invariant-loop-i l = Seeking l.table l.names l.i
