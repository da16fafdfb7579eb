use mathlib.Core.Path.{sym}
use Rattle.lang_ty.proofs.Rows.{stored_one}
use Rattle.lang_ty.proofs.arena.store_leaf.Goals as goal

pub returns : goal.returns
returns c = rw (sym c.number.ensures) (search stored_one)
