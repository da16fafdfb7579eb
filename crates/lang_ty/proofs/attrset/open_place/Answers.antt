use Rattle.lang_ty.proofs.Attrsets.{open_place_is}
use Rattle.lang_ty.proofs.attrset.open_place.Goals as goal

pub returns : goal.returns
returns c = search open_place_is
