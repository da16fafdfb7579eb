use mathlib.Core.Path.{refl}
use Rattle.std.proofs.lemmas.Result.{err_from_is_err_and}
use Rattle.composites.proofs.Settled.{flat_kind, union_on, union_off}
use Rattle.composites.proofs.lists.settle_union.Goals as goal

pub returns-in_err-all : goal.returns-in_err-all
returns-in_err-all c =
    let p = err_from_is_err_and c.from_residual.result c.from_residual.ensures.1 in
    rw (p.1, p.2) (union_off (flat_kind c.number.ensures (c.in_err-all.ensures c.args.q.now)) refl)

pub returns : goal.returns
returns c =
    union_on (flat_kind c.number.ensures (c.in_ok-all.ensures c.args.q.now)) refl c.real_members-m.ensures c.union_normalized-a.ensures
    c.top_if_emptied-cancelled.ensures c.first_of.ensures c.settle.ensures
