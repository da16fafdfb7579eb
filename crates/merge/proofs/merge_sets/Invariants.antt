-- The rules come to what was merged of the first i sets, with the others left to merge.
use Rattle.merge.proofs.MergeSets.{Passing}
use Rattle.merge.proofs.merge_sets.Given as goal

abbrev pub invariant-loop-i : goal.invariant-loop-i
invariant-loop-i l = Passing l.initial.arena l.initial.held l.h l.fn.q l.sets l.arena l.held l.g l.q l.i
