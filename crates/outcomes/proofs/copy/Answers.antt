use borrow.Author.Rules.{rules}
use Rattle.outcomes.proofs.Promises.{copying_start, copying_more, copying_done}
use Rattle.outcomes.proofs.copy.Goals as goal

pub loop-i-init : goal.loop-i-init
loop-i-init c = search (rules, copying_start)

pub loop-i-preserved : goal.loop-i-preserved
loop-i-preserved c = search (rules, copying_more)

pub returns : goal.returns
returns c = search (rules, copying_done)
