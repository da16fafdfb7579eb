use Rattle.lang_ty.proofs.Attrsets.{optionals_is}
use Rattle.lang_ty.proofs.attrset.optionals.Goals as goal

pub returns : goal.returns
returns c = search optionals_is
