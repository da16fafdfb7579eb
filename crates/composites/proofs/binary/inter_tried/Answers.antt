use mathlib.Core.Path.{refl}
use Rattle.std.proofs.lemmas.Result.{err_from_is_err_and}
use Rattle.composites.proofs.Settled.{flat_kind, fillers_out}
use Rattle.composites.proofs.Tries.{members_off, fillers_off, first_held, checked_off, inter_tried}
use Rattle.composites.proofs.binary.inter_tried.Goals as goal

pub returns-in_err-all : goal.returns-in_err-all
returns-in_err-all c =
    let p = err_from_is_err_and c.from_residual.result c.from_residual.ensures.1 in
    rw (p.1, p.2) (inter_tried (flat_kind c.number.ensures (c.in_err-all.ensures c.args.q.now)) (first_held c.args.t) (fillers_off refl) (members_off refl)
    (checked_off refl))

pub returns-in_err-m : goal.returns-in_err-m
returns-in_err-m c =
    let p = err_from_is_err_and c.from_residual-in_err-m.result c.from_residual-in_err-m.ensures.1 in
    rw (p.1, p.2) (inter_tried (flat_kind c.number.ensures (c.in_ok-all.ensures c.args.q.now)) c.first_tried-first.ensures
    (fillers_out c.real_members-found.ensures) c.in_err-m.ensures (checked_off refl))

pub returns : goal.returns
returns c =
    inter_tried (flat_kind c.number.ensures (c.in_ok-all.ensures c.args.q.now)) c.first_tried-first.ensures (fillers_out c.real_members-found.ensures)
    c.in_ok-m.ensures c.inter_checked.ensures
