-- `text::element_of` meets its contract. Assumes nothing.
use Rattle.text.proofs.Lists.{element_fits, element_keyed, element_none, element_one}
use Rattle.text.proofs.element_of.Goals as goal

pub returns-then-each-eq2 : goal.returns-then-each-eq2
returns-then-each-eq2 c = search element_keyed

pub returns-in_err-v : goal.returns-in_err-v
returns-in_err-v c = rw c.from_residual.ensures (search (element_none, c.in_err-v.was))

pub bounds-words-top : goal.bounds-words-top
bounds-words-top c = search (element_fits, c.in_ok-v.was)

pub returns : goal.returns
returns c = search (element_one, c.in_ok-v.was)
