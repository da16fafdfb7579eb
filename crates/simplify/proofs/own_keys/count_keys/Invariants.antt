-- The keys of the first i fields are counted.
use Rattle.simplify.proofs.OwnKeys.{Counting}
use mathlib.Core.Path.{◌≡◌}
use lib.ListN.{length}
use Rattle.simplify.proofs.own_keys.count_keys.Given as goal

abbrev pub invariant-loop-i : goal.invariant-loop-i
invariant-loop-i l = Counting l.words l.a l.initial.counts l.counts l.i × (length l.counts ≡ length l.initial.counts)
