use Rattle.lang_ty.proofs.Attrsets.{dyn_place_is}
use Rattle.lang_ty.proofs.attrset.dyn_place.Goals as goal

pub returns : goal.returns
returns c = search dyn_place_is
