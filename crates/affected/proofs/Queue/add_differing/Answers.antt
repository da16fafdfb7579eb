use Rattle.affected.proofs.Queueing.{differing_start, differing_more, differing_done}
use borrow.Author.Rules.{rules}
use Rattle.affected.proofs.Queue.add_differing.Goals as goal

pub loop-x-init : goal.loop-x-init
loop-x-init c = (search differing_start, search rules)

pub loop-x-preserved : goal.loop-x-preserved
loop-x-preserved c = (search differing_more, search rules)

pub returns-clause-made : goal.returns-clause-made
returns-clause-made c = search differing_done
