use Rattle.storage.proofs.Forests.{settling_more, settling_done}
use borrow.Author.Rules.{rules}
use Rattle.storage.proofs.equiv.settle.Goals as goal

pub loop-i-preserved : goal.loop-i-preserved
loop-i-preserved c = (search settling_more, search rules)

pub returns : goal.returns
returns c = search settling_done
