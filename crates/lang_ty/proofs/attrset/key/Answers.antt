use Rattle.lang_ty.proofs.Attrsets.{key_is}
use Rattle.lang_ty.proofs.attrset.key.Goals as goal

pub returns : goal.returns
returns c = search key_is
