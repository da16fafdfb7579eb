-- The keys of the first i members are counted.
use Rattle.simplify.proofs.OwnKeys.{Tallying}
use mathlib.Core.Path.{◌≡◌}
use lib.ListN.{length}
use Rattle.simplify.proofs.own_keys.count_members.Given as goal

abbrev pub invariant-loop-i : goal.invariant-loop-i
invariant-loop-i l = Tallying l.arena l.s l.n l.initial.counts l.counts l.i × (length l.counts ≡ length l.initial.counts)
