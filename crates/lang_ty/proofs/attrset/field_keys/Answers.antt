use Rattle.lang_ty.proofs.Attrsets.{field_keys_is}
use Rattle.lang_ty.proofs.attrset.field_keys.Goals as goal

pub returns : goal.returns
returns c = search field_keys_is
