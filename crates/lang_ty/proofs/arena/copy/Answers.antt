use Rattle.lang_ty.proofs.Rows.{copying_start, copying_more, copying_done}
use Rattle.lang_ty.proofs.arena.copy.Goals as goal

pub loop-i-init : goal.loop-i-init
loop-i-init c = search copying_start

pub loop-i-preserved : goal.loop-i-preserved
loop-i-preserved c = search copying_more

pub returns : goal.returns
returns c = search copying_done
