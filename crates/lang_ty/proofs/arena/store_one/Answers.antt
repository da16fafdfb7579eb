use mathlib.Core.Path.{sym}
use Rattle.lang_ty.proofs.Rows.{stored_two}
use Rattle.lang_ty.proofs.arena.store_one.Goals as goal

pub returns : goal.returns
returns c = rw (sym c.number.ensures) (search stored_two)
