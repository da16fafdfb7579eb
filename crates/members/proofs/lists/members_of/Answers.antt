use Rattle.members.proofs.Gathered.{opening_start, opening_more, opening_done}
use borrow.Author.Rules.{rules}
use Rattle.members.proofs.lists.members_of.Goals as goal

pub loop-i-init : goal.loop-i-init
loop-i-init c = (opening_start, search rules)

pub loop-i-preserved : goal.loop-i-preserved
loop-i-preserved c = (search opening_more, search rules)

pub returns : goal.returns
returns c = search opening_done
