-- The loop of Partway; its step is the rules' union without the shared members.
use Rattle.factor.proofs.Factors.{Leaving}
use Rattle.factor.proofs.remainders.Given as goal

abbrev pub invariant-loop-i : goal.invariant-loop-i
invariant-loop-i l = Leaving l.initial.arena l.initial.q l.shared l.unions l.arena l.out l.k l.q l.i
