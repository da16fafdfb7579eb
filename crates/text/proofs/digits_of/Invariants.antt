-- `text::digits_of` meets its contract: the digits left, after those read, make the number of all. Assumes nothing.
use Rattle.text.proofs.Leaves.{Counting}
use Rattle.text.proofs.digits_of.Given as goal

abbrev pub invariant-loop-i : goal.invariant-loop-i
invariant-loop-i l = Counting l.s l.from l.to l.i l.v
