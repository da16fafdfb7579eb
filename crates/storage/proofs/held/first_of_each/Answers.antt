use Rattle.storage.proofs.HeldOnce.{firsting_more}
use borrow.Author.Rules.{rules}
use Rattle.storage.proofs.held.first_of_each.Goals as goal

pub loop-i-preserved : goal.loop-i-preserved
loop-i-preserved c = (search firsting_more, search rules)
