use Rattle.merge.proofs.Sieving.{sieving_start, sieving_more, sieving_done}
use Rattle.merge.proofs.sieve_keys.Goals as goal

pub loop-i-init : goal.loop-i-init
loop-i-init c = search sieving_start

pub loop-i-preserved : goal.loop-i-preserved
loop-i-preserved c = search sieving_more

pub returns : goal.returns
returns c = search sieving_done
