use Rattle.simplify.proofs.OwnKeys.{tallying_start, tallying_more, tallying_done}
use borrow.Author.Rules.{rules}
use Rattle.simplify.proofs.own_keys.count_members.Goals as goal

pub loop-i-init : goal.loop-i-init
loop-i-init c = (tallying_start, search rules)

pub loop-i-preserved : goal.loop-i-preserved
loop-i-preserved c = (search tallying_more, search rules)

pub returns : goal.returns
returns c = search tallying_done
