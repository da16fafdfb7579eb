use Rattle.lang_ty.proofs.Words.{is_is}
use Rattle.lang_ty.proofs.arena.is.Goals as goal

pub returns : goal.returns
returns c = search is_is
