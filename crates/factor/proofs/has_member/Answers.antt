use Rattle.factor.proofs.Factors.{having_start, having_here, having_more, having_done}
use Rattle.factor.proofs.has_member.Goals as goal

pub loop-i-init : goal.loop-i-init
loop-i-init c = search having_start

pub returns-then-member-x : goal.returns-then-member-x
returns-then-member-x c = search having_here

pub loop-i-preserved : goal.loop-i-preserved
loop-i-preserved c = search having_more

pub returns : goal.returns
returns c = search having_done
