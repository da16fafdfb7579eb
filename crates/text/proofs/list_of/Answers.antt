-- `text::list_of` meets its contract. Assumes nothing.
use Rattle.text.proofs.Lists.{list_bad, list_dash, list_done, list_low, list_place, list_room, list_small}
use Rattle.text.proofs.list_of.Goals as goal

pub returns-then-mark : goal.returns-then-mark
returns-then-mark c = search list_dash

pub elements_of-requires : goal.elements_of-requires
elements_of-requires c = search list_room

pub overflow_sub-words : goal.overflow_sub-words
overflow_sub-words c = search (list_low, c.in_ok-t.was)

pub overflow_cast-words : goal.overflow_cast-words
overflow_cast-words c = record { fits = search (list_small, c.in_ok-t.was) }

pub bounds-words-top-2 : goal.bounds-words-top-2
bounds-words-top-2 c = search (list_place, c.in_ok-t.was)

pub returns-in_err-t : goal.returns-in_err-t
returns-in_err-t c = rw c.from_residual.ensures (search (list_bad, c.in_err-t.was))

pub returns : goal.returns
returns c = search (list_done, c.in_ok-t.was)
