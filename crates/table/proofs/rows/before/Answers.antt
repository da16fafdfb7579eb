use Rattle.table.proofs.Cells.{compare_differ, compare_end, compare_more, compare_short, compare_start}
use Rattle.table.proofs.rows.before.Goals as goal

pub loop-i-init : goal.loop-i-init
loop-i-init c = search compare_start

pub returns-then-t-k : goal.returns-then-t-k
returns-then-t-k c = search compare_short

pub returns-then-x-y : goal.returns-then-x-y
returns-then-x-y c = search compare_differ

pub loop-i-preserved : goal.loop-i-preserved
loop-i-preserved c = search compare_more

pub returns : goal.returns
returns c = search compare_end
