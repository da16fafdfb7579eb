-- `text::name_of` meets its contract: the bytes written, and the bytes left, make the whole name. Assumes nothing.
use Rattle.text.proofs.Naming.{Naming}
use Rattle.text.proofs.name_of.Given as goal

abbrev pub invariant-loop-i : goal.invariant-loop-i
invariant-loop-i l = Naming l.s l.from l.to l.top l.initial.words l.words l.state l.i l.t
