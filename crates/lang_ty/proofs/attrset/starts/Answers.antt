use Rattle.lang_ty.proofs.Attrsets.{starts_none, starts_some}
use Rattle.lang_ty.proofs.attrset.starts.Goals as goal

pub returns-then-ks-ne0 : goal.returns-then-ks-ne0
returns-then-ks-ne0 c = search starts_some

pub returns-else-ks-ne0 : goal.returns-else-ks-ne0
returns-else-ks-ne0 c = search starts_none
