use mathlib.Core.Path.{refl}
use Rattle.lang_ty.proofs.Words.{is_is}
use Rattle.members.proofs.flatten.is_of.Goals as goal

pub returns : goal.returns
returns c = is_is c.word.ensures refl refl
