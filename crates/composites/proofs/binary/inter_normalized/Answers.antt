use mathlib.Core.Path.{refl}
use Rattle.std.proofs.lemmas.Result.{err_from_is_err_and}
use Rattle.composites.proofs.Tries.{normalized_up, normalized_down, normalized_refused}
use Rattle.composites.proofs.binary.inter_normalized.Goals as goal

pub returns-in-Positive : goal.returns-in-Positive
returns-in-Positive c = search normalized_up

pub returns-in_err-l-in-Negative : goal.returns-in_err-l-in-Negative
returns-in_err-l-in-Negative c =
    let p = err_from_is_err_and c.from_residual.result c.from_residual.ensures.1 in
    rw (p.1, p.2) (normalized_refused c.in-Negative.is c.in_err-l-in-Negative.ensures refl)

pub returns-in_ok-l-in-Negative : goal.returns-in_ok-l-in-Negative
returns-in_ok-l-in-Negative c = normalized_down c.in-Negative.is c.in_ok-l-in-Negative.ensures c.remove_redundant_negations.ensures
