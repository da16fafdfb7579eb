use Rattle.lang_ty.proofs.Words.{member_is}
use Rattle.lang_ty.proofs.arena.member.Goals as goal

pub returns : goal.returns
returns c = search member_is
