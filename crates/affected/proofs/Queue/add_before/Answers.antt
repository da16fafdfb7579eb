use Rattle.affected.proofs.Queueing.{before_start, before_more, before_done, before_end}
use borrow.Author.Rules.{rules}
use Rattle.affected.proofs.Queue.add_before.Goals as goal

pub loop-i-init : goal.loop-i-init
loop-i-init c = (search before_start, search rules)

pub returns-then-e-eq0-clause-made : goal.returns-then-e-eq0-clause-made
returns-then-e-eq0-clause-made c = search before_done

pub loop-i-preserved : goal.loop-i-preserved
loop-i-preserved c = (search before_more, search rules)

pub returns-clause-made : goal.returns-clause-made
returns-clause-made c = search before_end
