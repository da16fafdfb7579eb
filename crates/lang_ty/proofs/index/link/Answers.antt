use Rattle.lang_ty.proofs.Buckets.{linked_is}
use Rattle.lang_ty.proofs.index.link.Goals as goal

pub returns : goal.returns
returns c = search linked_is
