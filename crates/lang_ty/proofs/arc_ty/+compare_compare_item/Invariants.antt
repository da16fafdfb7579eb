-- They end since an item counts less than its node, and a child, whose number is smaller, less still. The items from i on decide as all do.
use Prim.Native.Nat.{◌*◌, ◌+◌, ◌-◌}
use Rattle.lang_ty.proofs.Compare.{Ordered}
use Rattle.lang_ty.proofs.arc_ty.+compare_compare_item.Given as goal

abbrev pub decreases-compare : goal.decreases-compare
decreases-compare l = 2 * l.a + 1

abbrev pub decreases-compare_item : goal.decreases-compare_item
decreases-compare_item l = 2 * l.a

abbrev pub invariant-compare-loop-i : goal.invariant-compare-loop-i
invariant-compare-loop-i l = Ordered l.arena l.a l.b l.l l.i

abbrev pub decreases-compare-loop-i : goal.decreases-compare-loop-i
decreases-compare-loop-i l = l.l - l.i
