use Rattle.prepare.proofs.Facts.{seeking_start, seeking_here, seeking_more, seeking_done}
use Rattle.prepare.proofs.functor.Goals as goal

pub loop-i-init : goal.loop-i-init
loop-i-init c = seeking_start

pub returns-then-is_functor : goal.returns-then-is_functor
returns-then-is_functor c = search seeking_here

pub loop-i-preserved : goal.loop-i-preserved
loop-i-preserved c = search seeking_more

pub returns : goal.returns
returns c = search seeking_done
