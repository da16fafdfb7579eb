-- What was kept, and what the rules leave of the members from i on, are all that they leave.
use Rattle.simplify.proofs.Marked.{Leaving}
use mathlib.Core.Path.{◌≡◌}
use lib.ListN.{length}
use Rattle.simplify.proofs.unions.left.Given as goal

abbrev pub invariant-loop-i : goal.invariant-loop-i
invariant-loop-i l = Leaving l.gone l.m l.out l.k l.i × (length l.out ≡ length l.initial.out)
