use Rattle.lang_ty.proofs.Words.{numbered}
use Rattle.lang_ty.proofs.Compare.{ordered_start, ordered_more, ordered_decided, ordered_done, kinds_decide, at_same, at_never, at_end_lem}
use Rattle.lang_ty.proofs.Compare.{at_num, at_child_end, at_child_num, at_deeper}
use Rattle.lang_ty.proofs.arc_ty.+compare_compare_item.Goals as goal

pub compare-returns-then-j-k : goal.compare-returns-then-j-k
compare-returns-then-j-k t c =
    let one = numbered c.kind.ensures c.number-j.ensures in
    let two = numbered c.kind-2.ensures c.number-k.ensures in
    search kinds_decide

pub compare-loop-i-init : goal.compare-loop-i-init
compare-loop-i-init t c = search ordered_start

pub compare-loop-i-preserved : goal.compare-loop-i-preserved
compare-loop-i-preserved t c = search ordered_more

pub compare-returns-in_default : goal.compare-returns-in_default
compare-returns-in_default t c =
    let one = numbered c.kind.ensures c.number-j.ensures in
    let two = numbered c.kind-2.ensures c.number-k.ensures in
    search ordered_decided

pub compare-returns : goal.compare-returns
compare-returns t c =
    let one = numbered c.kind.ensures c.number-j.ensures in
    let two = numbered c.kind-2.ensures c.number-k.ensures in
    search ordered_done

pub compare_item-returns-then-x-y : goal.compare_item-returns-then-x-y
compare_item-returns-then-x-y t c = search at_same

pub compare_item-returns-then-a-x : goal.compare_item-returns-then-a-x
compare_item-returns-then-a-x t c = search at_never

pub compare_item-returns-in-End : goal.compare_item-returns-in-End
compare_item-returns-in-End t c = search (at_end_lem, at_num, at_child_end, at_child_num, at_deeper)

pub compare_item-returns-in-Num : goal.compare_item-returns-in-Num
compare_item-returns-in-Num t c = search (at_end_lem, at_num, at_child_end, at_child_num, at_deeper)

pub compare_item-returns-in-End-t : goal.compare_item-returns-in-End-t
compare_item-returns-in-End-t t c = search (at_end_lem, at_num, at_child_end, at_child_num, at_deeper)

pub compare_item-returns-in-Num-t : goal.compare_item-returns-in-Num-t
compare_item-returns-in-Num-t t c = search (at_end_lem, at_num, at_child_end, at_child_num, at_deeper)

pub compare_item-returns-else-a-x : goal.compare_item-returns-else-a-x
compare_item-returns-else-a-x t c = search (at_end_lem, at_num, at_child_end, at_child_num, at_deeper)
