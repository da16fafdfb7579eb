use mathlib.Core.Path.{refl}
use Rattle.std.proofs.lemmas.Result.{err_from_is_err_and}
use Rattle.composites.proofs.Tries.{settles_off, inter_rest_lem}
use Rattle.composites.proofs.binary.inter_rest.Goals as goal

pub returns-in_err-l : goal.returns-in_err-l
returns-in_err-l c =
    let p = err_from_is_err_and c.from_residual.result c.from_residual.ensures.1 in
    rw (p.1, p.2) (inter_rest_lem c.in_err-l.ensures c.top_if_emptied-cancelled.ensures (settles_off refl))

pub returns : goal.returns
returns c = inter_rest_lem c.in_ok-l.ensures c.top_if_emptied-cancelled.ensures c.inter_settled.ensures
