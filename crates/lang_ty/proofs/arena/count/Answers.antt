use Rattle.lang_ty.proofs.Words.{count_some, count_none}
use Rattle.lang_ty.proofs.arena.count.Goals as goal

pub returns-in-Union : goal.returns-in-Union
returns-in-Union c = search count_some

pub returns-in_default : goal.returns-in_default
returns-in_default c = search count_none
