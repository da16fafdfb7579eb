use Rattle.factor.proofs.Factors.{seeking_start, seeking_more, seeking_done}
use Rattle.factor.proofs.place_of.Goals as goal

pub loop-span-init : goal.loop-span-init
loop-span-init c = search seeking_start

pub loop-span-preserved : goal.loop-span-preserved
loop-span-preserved c = search seeking_more

pub returns : goal.returns
returns c = search seeking_done
