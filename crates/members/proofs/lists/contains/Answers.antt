use Rattle.members.proofs.Gathered.{containing_start, containing_here, containing_more, containing_done}
use Rattle.members.proofs.lists.contains.Goals as goal

pub loop-i-init : goal.loop-i-init
loop-i-init c = search containing_start

pub returns-then-at-x : goal.returns-then-at-x
returns-then-at-x c = search containing_here

pub loop-i-preserved : goal.loop-i-preserved
loop-i-preserved c = search containing_more

pub returns : goal.returns
returns c = search containing_done
