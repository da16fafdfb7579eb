-- Of the first i variables those seen in both polarities are preserved, and no other cell has changed.
use Rattle.lang_check.proofs.Passes.{Detecting}
use Rattle.lang_check.proofs.collect.detected_cooccurring.Given as goal

abbrev pub invariant-loop-i : goal.invariant-loop-i
invariant-loop-i l = Detecting l.initial.table l.work l.count l.table l.i
