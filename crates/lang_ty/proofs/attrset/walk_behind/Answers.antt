use Rattle.lang_ty.proofs.Attrsets.{walk_behind_is}
use Rattle.lang_ty.proofs.attrset.walk_behind.Goals as goal

pub returns : goal.returns
returns c = search walk_behind_is
