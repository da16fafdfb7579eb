-- `text::number_of` meets its contract. Assumes nothing.
use Rattle.text.proofs.Leaves.{number_none, number_one, number_zero, number_long}
use Rattle.text.proofs.number_of.Goals.{else-from-to-via-then-from-to+else-s-from-eq48, else-from-to-via-else-from-to}
use Rattle.text.proofs.number_of.Goals as goal

pub returns-then-to-from : goal.returns-then-to-from
returns-then-to-from c = search number_none

pub returns-then-s-from-eq48 : goal.returns-then-s-from-eq48
returns-then-s-from-eq48 c = search number_zero

pub returns : goal.returns
returns c =
    elim c.else-from-to.branch [
      | else-from-to-via-then-from-to+else-s-from-eq48 w ↦ number_long w.if-from-to.true w.if-s-from-eq48.false c.digits_of.ensures
      | else-from-to-via-else-from-to w ↦ number_one c.if-to-from.false w.if-from-to.false c.digits_of.ensures
    ]
