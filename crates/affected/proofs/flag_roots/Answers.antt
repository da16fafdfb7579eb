use Rattle.affected.proofs.Reaching.{flagging_start, flagging_more, flagging_done}
use borrow.Author.Rules.{rules}
use Rattle.affected.proofs.flag_roots.Goals as goal

pub loop-i-init : goal.loop-i-init
loop-i-init c = (flagging_start, search rules)

pub loop-i-preserved : goal.loop-i-preserved
loop-i-preserved c = (search flagging_more, search rules)

pub returns : goal.returns
returns c = search flagging_done
