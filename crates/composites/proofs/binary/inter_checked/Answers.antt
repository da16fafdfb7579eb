use mathlib.Core.Path.{refl}
use Rattle.std.proofs.lemmas.Result.{err_from_is_err_and}
use Rattle.composites.proofs.Tries.{tried_node, tried_refused, checked_contradicts, checked_rest}
use Rattle.composites.proofs.binary.inter_checked.Goals as goal

pub returns-then-has_type_contradiction : goal.returns-then-has_type_contradiction
returns-then-has_type_contradiction c = checked_contradicts refl c.has_type_contradiction.ensures c.if-has_type_contradiction.true

pub returns-in_err-x : goal.returns-in_err-x
returns-in_err-x c =
    let p = err_from_is_err_and c.from_residual.result c.from_residual.ensures.1 in
    rw (p.1, p.2) (checked_rest refl c.has_type_contradiction.ensures c.if-has_type_contradiction.false c.in_err-x.ensures (tried_refused refl))

pub returns : goal.returns
returns c = checked_rest refl c.has_type_contradiction.ensures c.if-has_type_contradiction.false c.in_ok-x.ensures (tried_node refl)
