use Rattle.lang_ty.proofs.Find.{row_other, row_same}
use Rattle.lang_ty.proofs.arena.row_is.Goals as goal

pub returns-then-e-add : goal.returns-then-e-add
returns-then-e-add c = search row_same

pub returns-else-e-add : goal.returns-else-e-add
returns-else-e-add c = search row_other
