use Rattle.table.proofs.Knowing.{roots_done, roots_more, roots_no, roots_start}
use Rattle.table.proofs.ranges.roots_known.Goals as goal

pub loop-i-init : goal.loop-i-init
loop-i-init c = search roots_start

pub loop-i-preserved : goal.loop-i-preserved
loop-i-preserved c = search roots_more

pub returns-then-not-below : goal.returns-then-not-below
returns-then-not-below c = search roots_no

pub returns : goal.returns
returns c = search roots_done
