-- Asking each member what it holds, if it is a Neg, is asking the rules' list of all that the Negs hold.
use Rattle.members.proofs.Sifted.{searching_start, searching_here, searching_more, searching_done}
use Rattle.simplify.proofs.Asking.{any_pair}
use Rattle.simplify.proofs.Contradiction.{negated_any}
use Rattle.simplify.proofs.beside.is_negated.Goals as goal

pub loop-i-init : goal.loop-i-init
loop-i-init c = searching_start

pub returns-then-is_negated_by : goal.returns-then-is_negated_by
returns-then-is_negated_by c =
    negated_any
    (any_pair (searching_here c.loop-i.invariant c.loop-i-test.true c.at.ensures c.is_negated_by.ensures c.if-is_negated_by.true) (λ y b a. a))

pub loop-i-preserved : goal.loop-i-preserved
loop-i-preserved c = searching_more c.loop-i.invariant c.loop-i-test.true c.at.ensures c.is_negated_by.ensures c.if-is_negated_by.false

pub returns : goal.returns
returns c = negated_any (any_pair (searching_done c.loop-i.invariant c.loop-i-test.false) (λ y b a. a))
