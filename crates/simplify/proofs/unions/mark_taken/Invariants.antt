-- The places marked are those that the rules have taken up after the first j places.
use Rattle.simplify.proofs.Marked.{Marking}
use mathlib.Core.Path.{◌≡◌}
use lib.ListN.{length}
use Rattle.simplify.proofs.unions.mark_taken.Given as goal

abbrev pub invariant-loop-j : goal.invariant-loop-j
invariant-loop-j l = Marking l.arena l.m l.i l.x l.initial.gone l.gone l.j × (length l.gone ≡ length l.initial.gone)
