-- Of the bits before cell i it is known whether any id was seen in both polarities.
use Rattle.lang_check.proofs.Passes.{Seeking}
use Rattle.lang_check.proofs.collect.any_both.Given as goal

abbrev pub invariant-loop-i : goal.invariant-loop-i
invariant-loop-i l = Seeking l.work l.count l.any l.i
