use Rattle.table.proofs.Cells.{below_done, below_more, below_no, below_start}
use Rattle.table.proofs.rows.below.Goals as goal

pub loop-i-init : goal.loop-i-init
loop-i-init c = search below_start

pub returns-then-limit-x : goal.returns-then-limit-x
returns-then-limit-x c = search below_no

pub loop-i-preserved : goal.loop-i-preserved
loop-i-preserved c = search below_more

pub returns : goal.returns
returns c = search below_done
