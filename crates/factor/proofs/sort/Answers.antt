use Rattle.factor.proofs.Factors.{inserting_start, inserting_more, inserting_done}
use borrow.Author.Rules.{rules}
use Rattle.factor.proofs.sort.Goals as goal

pub loop-i-init : goal.loop-i-init
loop-i-init c = (inserting_start, search rules)

pub loop-i-preserved : goal.loop-i-preserved
loop-i-preserved c = (search inserting_more, search rules)

pub returns : goal.returns
returns c = inserting_done c.loop-i.invariant.0 c.loop-i-test.false
