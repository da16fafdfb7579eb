use Rattle.storage.proofs.SetNodes.{putting_more, putting_done}
use Rattle.storage.proofs.sets.put_types.Goals as goal

pub loop-i-preserved : goal.loop-i-preserved
loop-i-preserved c = search putting_more

pub returns : goal.returns
returns c = search putting_done
