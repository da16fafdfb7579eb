use mathlib.Core.Path.{refl}
use Rattle.std.proofs.lemmas.Result.{err_from_is_err_and}
use Rattle.composites.proofs.Settled.{flat_kind}
use Rattle.composites.proofs.NormalBounds.{merged_off, intersection_on, intersection_off}
use Rattle.composites.proofs.bounds.settle_intersection.Goals as goal

pub returns-in_err-all : goal.returns-in_err-all
returns-in_err-all c =
    let p = err_from_is_err_and c.from_residual.result c.from_residual.ensures.1 in
    rw (p.1, p.2) (intersection_off (flat_kind c.number.ensures (c.in_err-all.ensures c.args.q.now)) refl)

pub returns-in_err-merged : goal.returns-in_err-merged
returns-in_err-merged c =
    let p = err_from_is_err_and c.from_residual-in_err-merged.result c.from_residual-in_err-merged.ensures.1 in
    rw (p.1, p.2) (intersection_on (flat_kind c.number.ensures (c.in_ok-all.ensures c.args.q.now)) refl c.real_members-m.ensures c.in_err-merged.ensures
    c.first_of-first.ensures (merged_off refl))

pub returns : goal.returns
returns c =
    intersection_on (flat_kind c.number.ensures (c.in_ok-all.ensures c.args.q.now)) refl c.real_members-m.ensures c.in_ok-merged.ensures
    c.first_of-first.ensures c.settle_merged.ensures
