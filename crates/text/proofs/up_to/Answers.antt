-- `text::up_to` meets its contract. Assumes nothing.
use Rattle.text.proofs.Fields.{bounded_big, bounded_none, bounded_one}
use Rattle.text.proofs.up_to.Goals as goal

pub returns-in_err-v : goal.returns-in_err-v
returns-in_err-v c = rw c.from_residual.ensures (search (bounded_none, c.in_err-v.was))

pub returns-then-most-v : goal.returns-then-most-v
returns-then-most-v c = search (bounded_big, c.in_ok-v.was)

pub returns : goal.returns
returns c = search (bounded_one, c.in_ok-v.was)
