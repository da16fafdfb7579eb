-- The first i members stand after the first k cells, which are as they were, as long as they fit.
use Rattle.members.proofs.Gathered.{Filling}
use Rattle.members.proofs.lists.copy_into.Given as goal

abbrev pub invariant-loop-i : goal.invariant-loop-i
invariant-loop-i l = Filling l.k l.ms 0 l.n l.initial.out l.out l.i
