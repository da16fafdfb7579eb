-- The first i cells are the rules' sort of the first i members.
use Rattle.factor.proofs.Factors.{Inserting}
use mathlib.Core.Path.{◌≡◌}
use lib.ListN.{length}
use Rattle.factor.proofs.sort.Given as goal

abbrev pub invariant-loop-i : goal.invariant-loop-i
invariant-loop-i l = Inserting l.arena l.ms l.n l.out l.i × (length l.out ≡ length l.initial.out)
