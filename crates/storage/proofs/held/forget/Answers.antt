use Rattle.storage.proofs.HeldOnce.{forgetting_more, forgetting_done}
use borrow.Author.Rules.{rules}
use Rattle.storage.proofs.held.forget.Goals as goal

pub loop-i-preserved : goal.loop-i-preserved
loop-i-preserved c = (search forgetting_more, search rules)

pub returns : goal.returns
returns c = search forgetting_done
