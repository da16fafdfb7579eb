-- With no set among the members the rules give them as they are; otherwise what the sets come to goes after the others.
use Rattle.std.proofs.lemmas.Result.{err_from_is_err_and}
use Rattle.merge.proofs.MergeStore.{top_none, top_refused, top_merged}
use Rattle.merge.proofs.merge_attrset_intersection.Goals as goal

pub returns-then-sets-eq0 : goal.returns-then-sets-eq0
returns-then-sets-eq0 c = search top_none

pub returns-in_err-g : goal.returns-in_err-g
returns-in_err-g c =
    let p = err_from_is_err_and c.from_residual.result c.from_residual.ensures.1 in
    rw (p.1, p.2) (top_refused c.of_kind-sets.ensures c.if-sets-eq0.false c.of_kind-others.ensures c.in_err-g.ensures c.merge_sets.auto.held)

pub returns : goal.returns
returns c =
    top_merged c.of_kind-sets.ensures c.if-sets-eq0.false c.of_kind-others.ensures c.in_ok-g.ensures c.merge_sets.auto.held c.merged_last.ensures
