use Rattle.lang_ty.proofs.Buckets.{hashing_start, hashing_more, hashing_done}
use Rattle.lang_ty.proofs.index.hash.Goals as goal

pub loop-i-init : goal.loop-i-init
loop-i-init c = search hashing_start

pub loop-i-preserved : goal.loop-i-preserved
loop-i-preserved c = search hashing_more

pub returns : goal.returns
returns c = search hashing_done
