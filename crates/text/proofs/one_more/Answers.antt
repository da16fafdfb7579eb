-- `text::one_more` meets its contract. Assumes nothing.
use Rattle.text.proofs.Leaves.{digit_out, digit_big, digit_is}
use Rattle.text.proofs.one_more.Goals as goal

pub returns-then-b-lt48 : goal.returns-then-b-lt48
returns-then-b-lt48 c = digit_out c.then-b-lt48.either

pub returns-in_err-checked_mul : goal.returns-in_err-checked_mul
returns-in_err-checked_mul c = digit_big c.if-b-lt48.false c.if-b-gt57.false c.in_err-checked_mul.ensures c.from_residual.ensures

pub returns : goal.returns
returns c = digit_is c.if-b-lt48.false c.if-b-gt57.false c.checked_add.result c.in_ok-checked_mul.ensures.1 c.from.ensures c.checked_add.ensures
