-- `text::kinds::kind_of` meets its contract: the kinds that are left say the same as all. Assumes nothing.
use Rattle.text.proofs.Keywords.{Looking}
use Rattle.text.proofs.kinds.kind_of.Given as goal

abbrev pub invariant-loop-i : goal.invariant-loop-i
invariant-loop-i l = Looking l.kinds l.n l.s l.from l.to l.i
