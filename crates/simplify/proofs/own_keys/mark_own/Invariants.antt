-- Of the first i members those with a key of their own are marked; that the keys were counted is known from before the loop.
use Rattle.simplify.specs.OwnKeys.{MarksOwn}
use mathlib.Core.Path.{◌≡◌}
use lib.ListN.{length}
use Rattle.simplify.proofs.own_keys.mark_own.Given as goal

abbrev pub invariant-loop-i : goal.invariant-loop-i
invariant-loop-i l = MarksOwn l.arena l.s l.n l.initial.own l.own × (length l.own ≡ length l.initial.own)
