use Rattle.merge.proofs.Sieving.{listing_start, listing_more, listing_done}
use Rattle.merge.proofs.list_keys.Goals as goal

pub loop-i-init : goal.loop-i-init
loop-i-init c = listing_start

pub loop-i-preserved : goal.loop-i-preserved
loop-i-preserved c = search listing_more

pub returns : goal.returns
returns c = search listing_done
