-- The first i cells stand where they belong, as long as they fit.
use Rattle.members.proofs.Gathered.{Filling}
use Rattle.members.proofs.lists.held.Given as goal

abbrev pub invariant-loop-i : goal.invariant-loop-i
invariant-loop-i l = Filling 0 l.s l.h l.n l.initial.out l.out l.i
