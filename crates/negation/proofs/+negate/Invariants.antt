-- It ends since a member's number is below its node's. What is held from h on are the negations of the first i members; what is remembered of a node
-- is what the rules give for it again, in every state from then on.
use Rattle.negation.proofs.Turning.{Negating}
use Rattle.negation.proofs.+negate.Given as goal

abbrev pub decreases-negate : goal.decreases-negate
decreases-negate l = l.x

abbrev pub invariant-loop-i : goal.invariant-loop-i
invariant-loop-i l = Negating l.initial.arena l.initial.held l.h l.initial.q l.x l.arena l.held l.q l.i
