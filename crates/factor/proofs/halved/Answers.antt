-- What the cell that is compared says of x is said of the smaller span's end.
use Rattle.factor.proofs.Factors.{halved_low, halved_high}
use Rattle.factor.proofs.halved.Goals as goal

pub returns-then-is_behind : goal.returns-then-is_behind
returns-then-is_behind c = search halved_low

pub returns : goal.returns
returns c = search halved_high
