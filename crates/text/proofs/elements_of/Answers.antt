use Rattle.text.proofs.Lists.{elements_bad, elements_last, elements_more, elements_room, elements_start}
use Rattle.text.proofs.elements_of.Goals as goal

pub loop-t-init : goal.loop-t-init
loop-t-init c = search elements_start

pub element_of-requires : goal.element_of-requires
element_of-requires c = search elements_room

pub returns-in_err-t : goal.returns-in_err-t
returns-in_err-t c = rw c.from_residual.ensures (search (elements_bad, c.in_err-t.was))

pub returns-then-e-to : goal.returns-then-e-to
returns-then-e-to c = search (elements_last, c.in_ok-t.was)

pub loop-t-preserved : goal.loop-t-preserved
loop-t-preserved c = search (elements_more, c.in_ok-t.was)
