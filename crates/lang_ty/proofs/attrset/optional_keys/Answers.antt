use Rattle.lang_ty.proofs.Attrsets.{optional_keys_is}
use Rattle.lang_ty.proofs.attrset.optional_keys.Goals as goal

pub returns : goal.returns
returns c = search optional_keys_is
