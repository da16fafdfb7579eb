use Rattle.lang_ty.proofs.Attrsets.{open_is}
use Rattle.lang_ty.proofs.attrset.open.Goals as goal

pub returns : goal.returns
returns c = search open_is
