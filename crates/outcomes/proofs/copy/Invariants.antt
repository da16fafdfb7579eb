-- The first i bytes are the draft's, and the rest is as found.
use Rattle.outcomes.proofs.Promises.{Copying}
use Rattle.outcomes.proofs.copy.Given as goal

abbrev pub invariant-loop-i : goal.invariant-loop-i
invariant-loop-i l = Copying l.initial.out l.draft l.out l.n l.i
