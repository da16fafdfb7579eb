use Rattle.lang_ty.proofs.Attrsets.{has_field_is}
use Rattle.lang_ty.proofs.attrset.has_field.Goals as goal

pub returns : goal.returns
returns c = search has_field_is
