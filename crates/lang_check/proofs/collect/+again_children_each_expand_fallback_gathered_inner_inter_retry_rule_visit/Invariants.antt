-- The measure is 20 for each free key, a rank for each function, and 2 for each fallback that may still begin: `visit` takes a key, and at equal
-- keys each calls only what counts less. In the loop of `each` the first i ids held are answers by now, and the rules are as far.
use Rattle.lang_check.proofs.Each.{Eaching}
use Prim.Native.Nat.{◌*◌, ◌+◌, ◌≤◌}
use Rattle.lang_check.proofs.collect.+again_children_each_expand_fallback_gathered_inner_inter_retry_rule_visit.Given as goal

abbrev pub decreases-again : goal.decreases-again
decreases-again l = 20 * l.free + 4

abbrev pub decreases-children : goal.decreases-children
decreases-children l = 20 * l.free + 2

abbrev pub decreases-each : goal.decreases-each
decreases-each l = 20 * l.free + 1

abbrev pub decreases-expand : goal.decreases-expand
decreases-expand l = 20 * l.free + 4 + 2 * l.chain

abbrev pub decreases-fallback : goal.decreases-fallback
decreases-fallback l = 20 * l.free + 3 + 2 * l.chain

abbrev pub decreases-gathered : goal.decreases-gathered
decreases-gathered l = 20 * l.free + 2

abbrev pub decreases-inner : goal.decreases-inner
decreases-inner l = 20 * l.free + 13

abbrev pub decreases-inter : goal.decreases-inter
decreases-inter l = 20 * l.free + 5

abbrev pub decreases-retry : goal.decreases-retry
decreases-retry l = 20 * l.free + 3

abbrev pub decreases-rule : goal.decreases-rule
decreases-rule l = 20 * l.free + 14

abbrev pub decreases-visit : goal.decreases-visit
decreases-visit l = 20 * l.free

abbrev pub invariant-each-loop-i : goal.invariant-each-loop-i
invariant-each-loop-i l = (l.n ≤ 4294967295) × Eaching l.table l.c l.initial.arena l.initial.work l.free l.h l.initial.q l.n l.first l.pol l.arena l.work l.q l.i
