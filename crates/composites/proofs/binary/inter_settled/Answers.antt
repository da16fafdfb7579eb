use mathlib.Core.Path.{refl}
use Rattle.std.proofs.lemmas.Result.{err_from_is_err_and}
use Rattle.composites.proofs.Settled.{listed_on, listed_off, or_refused}
use Rattle.composites.proofs.Tries.{steps_on, steps_off, inter_settled}
use Rattle.composites.proofs.binary.inter_settled.Goals as goal

pub returns-in_err-s : goal.returns-in_err-s
returns-in_err-s c =
    let p = err_from_is_err_and c.from_residual.result c.from_residual.ensures.1 in
    rw (p.1, p.2) (inter_settled (steps_on refl c.in_err-s.ensures) (steps_off refl) (listed_off refl) (or_refused refl))

pub returns-in_err-f : goal.returns-in_err-f
returns-in_err-f c =
    let p = err_from_is_err_and c.from_residual-in_err-f.result c.from_residual-in_err-f.ensures.1 in
    rw (p.1, p.2) (inter_settled (steps_on refl c.in_ok-s.ensures) (steps_on refl c.in_err-f.ensures) (listed_off refl) (or_refused refl))

pub returns : goal.returns
returns c =
    inter_settled (steps_on refl c.in_ok-s.ensures) (steps_on refl c.in_ok-f.ensures) (listed_on refl c.settle-e.ensures) c.or_first.ensures
