-- `text::keyed_of` meets its contract. Assumes nothing.
use Rattle.text.proofs.Lists.{keyed_alone, keyed_done, keyed_many, keyed_no_id, keyed_no_key, keyed_place}
use Rattle.text.proofs.keyed_of.Goals as goal

pub returns-then-e-to : goal.returns-then-e-to
returns-then-e-to c = search keyed_alone

pub returns-then-f-to : goal.returns-then-f-to
returns-then-f-to c = search keyed_many

pub returns-in_err-k : goal.returns-in_err-k
returns-in_err-k c = rw c.from_residual.ensures (search (keyed_no_key, c.in_err-k.was))

pub returns-in_err-i : goal.returns-in_err-i
returns-in_err-i c = rw c.from_residual-in_err-i.ensures (search (keyed_no_id, c.in_ok-k.was, c.in_err-i.was))

pub bounds-words-top-2 : goal.bounds-words-top-2
bounds-words-top-2 c = search (keyed_place, c.in_ok-k.was, c.in_ok-i.was)

pub returns : goal.returns
returns c = search (keyed_done, c.in_ok-k.was, c.in_ok-i.was)
