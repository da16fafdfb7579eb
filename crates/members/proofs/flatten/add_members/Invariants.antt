-- What was collected is what the rules collect of the first i members.
use Rattle.members.proofs.Flattened.{Adding}
use mathlib.Core.Path.{◌≡◌}
use lib.ListN.{length}
use Rattle.members.proofs.flatten.add_members.Given as goal

abbrev pub invariant-loop-i : goal.invariant-loop-i
invariant-loop-i l = Adding l.arena l.initial.out l.k l.x l.n l.out l.got l.i × (length l.out ≡ length l.initial.out)
