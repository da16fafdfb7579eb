use Rattle.simplify.proofs.OwnKeys.{counting_start, counting_more, counting_done}
use borrow.Author.Rules.{rules}
use Rattle.simplify.proofs.own_keys.count_keys.Goals as goal

pub loop-i-init : goal.loop-i-init
loop-i-init c = (counting_start, search rules)

pub loop-i-preserved : goal.loop-i-preserved
loop-i-preserved c = (search counting_more, search rules)

pub returns : goal.returns
returns c = search counting_done
