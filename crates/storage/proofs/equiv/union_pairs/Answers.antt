use Rattle.storage.proofs.Forests.{uniting_more}
use borrow.Author.Rules.{rules}
use Rattle.storage.proofs.equiv.union_pairs.Goals as goal

pub loop-i-preserved : goal.loop-i-preserved
loop-i-preserved c = (search uniting_more, search rules)
