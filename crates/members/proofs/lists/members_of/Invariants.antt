-- The first i cells are the first i members of the node.
use Rattle.members.proofs.Gathered.{Opening}
use mathlib.Core.Path.{◌≡◌}
use lib.ListN.{length}
use Rattle.members.proofs.lists.members_of.Given as goal

abbrev pub invariant-loop-i : goal.invariant-loop-i
invariant-loop-i l = Opening l.arena l.x l.out l.i × (length l.out ≡ length l.initial.out)
