use Rattle.lang_ty.proofs.Attrsets.{dyns_is}
use Rattle.lang_ty.proofs.attrset.dyns.Goals as goal

pub returns : goal.returns
returns c = search dyns_is
