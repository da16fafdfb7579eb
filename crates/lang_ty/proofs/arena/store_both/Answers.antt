use mathlib.Core.Path.{sym}
use Rattle.lang_ty.proofs.Rows.{stored_four}
use Rattle.lang_ty.proofs.arena.store_both.Goals as goal

pub returns : goal.returns
returns c = rw (sym c.number.ensures) (search stored_four)
