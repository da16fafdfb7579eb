use mathlib.Core.Path.{sym}
use Rattle.lang_ty.proofs.Rows.{listed_many, listed_few}
use Rattle.lang_ty.proofs.arena.store_list.Goals as goal

pub returns-then-n-gt-MEMBERS : goal.returns-then-n-gt-MEMBERS
returns-then-n-gt-MEMBERS c = search listed_many

pub returns : goal.returns
returns c = rw (sym c.number.ensures) (search listed_few)
