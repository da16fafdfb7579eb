use Rattle.merge.proofs.Sieving.{leaving_start, leaving_more, leaving_done}
use Rattle.merge.proofs.sieve_all.Goals as goal

pub loop-i-init : goal.loop-i-init
loop-i-init c = leaving_start

pub loop-i-preserved : goal.loop-i-preserved
loop-i-preserved c = search leaving_more

pub returns : goal.returns
returns c = search leaving_done
