-- What was collected is what the rules collect of the first i members.
use Rattle.members.proofs.Flattened.{Flattening}
use lib.ListN.{length}
use mathlib.Core.Path.{◌≡◌}
use Rattle.members.proofs.flatten.flatten_all.Given as goal

abbrev pub invariant-loop-i : goal.invariant-loop-i
invariant-loop-i l = Flattening l.kind l.arena l.ms l.n l.out l.k l.i × (length l.out ≡ length l.initial.out)
