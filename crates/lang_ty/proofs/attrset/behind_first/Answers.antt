use Rattle.lang_ty.proofs.Attrsets.{behind_none, behind_some}
use Rattle.lang_ty.proofs.attrset.behind_first.Goals as goal

pub returns-then-ks-eq0 : goal.returns-then-ks-eq0
returns-then-ks-eq0 c = search behind_none

pub returns : goal.returns
returns c = search behind_some
