use Rattle.lang_ty.proofs.Find.{comparing_start, comparing_more, comparing_other, comparing_done}
use Rattle.lang_ty.proofs.arena.same.Goals as goal

pub loop-i-init : goal.loop-i-init
loop-i-init c = search comparing_start

pub returns-then-get : goal.returns-then-get
returns-then-get c = search comparing_other

pub loop-i-preserved : goal.loop-i-preserved
loop-i-preserved c = search comparing_more

pub returns : goal.returns
returns c = search comparing_done
