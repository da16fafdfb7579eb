use Rattle.lang_ty.proofs.Attrsets.{passing_start, passing_here, passing_more, passing_done}
use Rattle.lang_ty.proofs.attrset.keys_from.Goals as goal

pub loop-n-init : goal.loop-n-init
loop-n-init c = search passing_start

pub returns-then-k-at : goal.returns-then-k-at
returns-then-k-at c = search passing_here

pub loop-n-preserved : goal.loop-n-preserved
loop-n-preserved c = search passing_more

pub returns : goal.returns
returns c = search passing_done
