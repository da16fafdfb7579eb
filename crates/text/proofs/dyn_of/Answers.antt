-- `text::dyn_of` meets its contract. Assumes nothing.
use Rattle.text.proofs.Fields.{dyn_bad, dyn_none, dyn_place_lem, dyn_some}
use Rattle.text.proofs.dyn_of.Goals as goal

pub returns-then-mark : goal.returns-then-mark
returns-then-mark c = search dyn_none

pub returns-in_err-v : goal.returns-in_err-v
returns-in_err-v c = rw c.from_residual.ensures (search (dyn_bad, c.in_err-v.was))

pub bounds-words-top-3 : goal.bounds-words-top-3
bounds-words-top-3 c = search (dyn_place_lem, c.in_ok-v.was)

pub returns : goal.returns
returns c = search (dyn_some, c.in_ok-v.was)
