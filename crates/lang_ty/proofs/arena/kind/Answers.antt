use Rattle.lang_ty.proofs.Words.{kind_is}
use Rattle.lang_ty.proofs.arena.kind.Goals as goal

pub returns : goal.returns
returns c = search kind_is
