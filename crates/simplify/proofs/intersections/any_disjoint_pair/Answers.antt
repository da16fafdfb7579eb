use borrow.Author.Rules.{rules}
use Rattle.simplify.proofs.Asking.{any_pair}
use Rattle.simplify.proofs.Contradiction.{pair_disjoint, pairing_here, pairing_more, pairing_done}
use Rattle.simplify.proofs.intersections.any_disjoint_pair.Goals as goal

pub returns-then-any_from : goal.returns-then-any_from
returns-then-any_from c =
    pairing_here c.loop-i.invariant c.loop-i-test.true c.at-x.ensures (any_pair c.any_from.ensures (λ y b a. search (rules, pair_disjoint))) c.if-any_from.true

pub loop-i-preserved : goal.loop-i-preserved
loop-i-preserved c =
    pairing_more c.loop-i.invariant c.loop-i-test.true c.at-x.ensures (any_pair c.any_from.ensures (λ y b a. search (rules, pair_disjoint))) c.if-any_from.false

pub returns : goal.returns
returns c = pairing_done c.loop-i.invariant c.loop-i-test.false
