use Rattle.text.proofs.Leaves.{count_start, count_more, count_no, count_done}
use Rattle.text.proofs.digits_of.Goals as goal

pub loop-i-init : goal.loop-i-init
loop-i-init c = search count_start

pub returns-in_err-v : goal.returns-in_err-v
returns-in_err-v c = rw c.from_residual.ensures (search (count_no, c.in_err-v.was))

pub loop-i-preserved : goal.loop-i-preserved
loop-i-preserved c = search (count_more, c.in_ok-v.was)

pub returns : goal.returns
returns c = search count_done
