use Rattle.members.proofs.Sifted.{searching_start, searching_here, searching_more, searching_done}
use Rattle.members.proofs.lists.Members.any_from.Goals as goal

pub loop-i-init : goal.loop-i-init
loop-i-init g c = searching_start

pub returns-then-test : goal.returns-then-test
returns-then-test g c = searching_here c.loop-i.invariant c.loop-i-test.true c.at.ensures c.test.ensures c.if-test.true

pub loop-i-preserved : goal.loop-i-preserved
loop-i-preserved g c = searching_more c.loop-i.invariant c.loop-i-test.true c.at.ensures c.test.ensures c.if-test.false

pub returns : goal.returns
returns g c = searching_done c.loop-i.invariant c.loop-i-test.false
