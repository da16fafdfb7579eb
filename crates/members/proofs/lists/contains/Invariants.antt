-- The cells from i on contain x exactly if all do.
use Rattle.members.proofs.Gathered.{Containing}
use Rattle.members.proofs.lists.contains.Given as goal

abbrev pub invariant-loop-i : goal.invariant-loop-i
invariant-loop-i l = Containing l.s l.n l.x l.i
