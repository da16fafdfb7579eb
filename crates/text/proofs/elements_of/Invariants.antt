-- `text::elements_of` meets its contract: the words written, and the elements left, make the whole list. Assumes nothing.
use Rattle.text.proofs.Lists.{Listing}
use Prim.Native.Nat.{◌-◌}
use Rattle.text.proofs.elements_of.Given as goal

abbrev pub invariant-loop-t : goal.invariant-loop-t
invariant-loop-t l = Listing l.s l.from l.to l.each l.top l.initial.words l.words l.i l.t

abbrev pub decreases-loop-t : goal.decreases-loop-t
decreases-loop-t l = l.to - l.i
