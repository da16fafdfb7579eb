use Rattle.text.proofs.Shaping.{shape_start, shape_few, shape_room, shape_no, shape_more, shape_many, shape_place, shape_done}
use Rattle.text.proofs.fields_of.Goals as goal

pub loop-k-init : goal.loop-k-init
loop-k-init c = search shape_start

pub returns-then-to-i : goal.returns-then-to-i
returns-then-to-i c = search shape_few

pub field_of-requires : goal.field_of-requires
field_of-requires c = search shape_room

pub returns-in_err-t : goal.returns-in_err-t
returns-in_err-t c = rw c.from_residual.ensures (search (shape_no, c.in_err-t.was))

pub loop-k-preserved : goal.loop-k-preserved
loop-k-preserved c = search (shape_more, c.in_ok-t.was)

pub returns-then-i-to : goal.returns-then-i-to
returns-then-i-to c = search shape_many

pub bounds-words-top : goal.bounds-words-top
bounds-words-top c = search shape_place

pub returns : goal.returns
returns c = search shape_done
