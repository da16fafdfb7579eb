use Rattle.affected.proofs.Reaching.{spreading_start, spreading_more, spreading_done, spreading_end}
use borrow.Author.Rules.{rules}
use Rattle.affected.proofs.Queue.spread.Goals as goal

pub loop-i-init : goal.loop-i-init
loop-i-init c = (spreading_start, search rules)

pub returns-then-self-i-clause-made : goal.returns-then-self-i-clause-made
returns-then-self-i-clause-made c = search spreading_done

pub loop-i-preserved : goal.loop-i-preserved
loop-i-preserved c = (search spreading_more, search rules)

pub returns-clause-made : goal.returns-clause-made
returns-clause-made c = search spreading_end
