use Rattle.lang_ty.proofs.Attrsets.{field_type_is}
use Rattle.lang_ty.proofs.attrset.field_type.Goals as goal

pub returns : goal.returns
returns c = search field_type_is
