-- Setting the marks that are left gives what setting all gives; their rows lie after the cells that are set, so none of them changes.
use Rattle.prepare.proofs.Facts.{Marking}
use mathlib.Core.Path.{◌≡◌}
use lib.ListN.{length}
use Rattle.prepare.proofs.set_marks.Given as goal

abbrev pub invariant-loop-i : goal.invariant-loop-i
invariant-loop-i l = Marking l.initial.table l.first l.entries l.n l.table l.i × (length l.table ≡ length l.initial.table)
