use Rattle.table.proofs.Cells.{ascend_done, ascend_more, ascend_no, ascend_start}
use Rattle.table.proofs.rows.ascend.Goals as goal

pub loop-i-init : goal.loop-i-init
loop-i-init c = search ascend_start

pub returns-then-y-x : goal.returns-then-y-x
returns-then-y-x c = search ascend_no

pub loop-i-preserved : goal.loop-i-preserved
loop-i-preserved c = search ascend_more

pub returns : goal.returns
returns c = search ascend_done
