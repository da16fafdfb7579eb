-- The members from i on contain x exactly if all do.
use Rattle.factor.proofs.Factors.{Having}
use Rattle.factor.proofs.has_member.Given as goal

abbrev pub invariant-loop-i : goal.invariant-loop-i
invariant-loop-i l = Having l.arena l.u l.x l.n l.i
