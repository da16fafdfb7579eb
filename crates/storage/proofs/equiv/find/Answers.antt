use Rattle.storage.proofs.Forests.{climbing_start, climbing_more, climbing_here, climbing_done}
use borrow.Author.Rules.{rules}
use Rattle.storage.proofs.equiv.find.Goals as goal

pub loop-i-init : goal.loop-i-init
loop-i-init c = (climbing_start, search rules)

pub returns-then-p-cur : goal.returns-then-p-cur
returns-then-p-cur c = search climbing_here

pub loop-i-preserved : goal.loop-i-preserved
loop-i-preserved c = (search climbing_more, search rules)

pub returns : goal.returns
returns c = search climbing_done
