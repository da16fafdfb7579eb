use Rattle.listing.proofs.Listings.{numbers_start, numbers_more, numbers_done, numbers_none}
use Rattle.listing.proofs.lines.number_list.Goals as goal

pub returns-then-n-eq0 : goal.returns-then-n-eq0
returns-then-n-eq0 g c = search numbers_none

pub loop-i-init : goal.loop-i-init
loop-i-init g c = search numbers_start

pub loop-i-preserved : goal.loop-i-preserved
loop-i-preserved g c = search numbers_more

pub returns : goal.returns
returns g c = search numbers_done
