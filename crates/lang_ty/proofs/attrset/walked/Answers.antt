use Rattle.lang_ty.proofs.Attrsets.{walked_other, walked_optional}
use Rattle.lang_ty.proofs.attrset.walked.Goals as goal

pub returns-then-starts : goal.returns-then-starts
returns-then-starts c = search walked_other

pub returns : goal.returns
returns c = search walked_optional
