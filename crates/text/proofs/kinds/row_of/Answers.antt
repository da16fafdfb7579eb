-- `text::kinds::row_of` meets its contract. Assumes nothing.
use Rattle.text.proofs.Keywords.{row_none, row_slot, row_some}
use borrow.Author.Rules.{rules}
use Rattle.text.proofs.kinds.row_of.Goals as goal

pub returns-in_err-i : goal.returns-in_err-i
returns-in_err-i c = rw c.from_residual.ensures (search (row_none, c.in_err-i.was))

pub fields_of-requires : goal.fields_of-requires
fields_of-requires c = record { shape_room = search rules; slot = search (row_slot, c.in_ok-i.was) }

pub returns : goal.returns
returns c = search (row_some, c.in_ok-i.was)
