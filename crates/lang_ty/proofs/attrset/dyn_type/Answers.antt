use Rattle.lang_ty.proofs.Attrsets.{dyn_type_is}
use Rattle.lang_ty.proofs.attrset.dyn_type.Goals as goal

pub returns : goal.returns
returns c = search dyn_type_is
