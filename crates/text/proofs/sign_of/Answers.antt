-- `text::sign_of` meets its contract. Assumes nothing.
use Rattle.text.proofs.Fields.{sign_bad, sign_minus, sign_plus}
use Rattle.text.proofs.sign_of.Goals as goal

pub returns-then-mark : goal.returns-then-mark
returns-then-mark c = search sign_plus

pub returns-then-mark-2 : goal.returns-then-mark-2
returns-then-mark-2 c = search sign_minus

pub returns : goal.returns
returns c = search sign_bad
