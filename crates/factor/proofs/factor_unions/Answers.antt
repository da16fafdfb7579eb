use mathlib.Core.Path.{refl}
use Rattle.std.proofs.lemmas.Result.{err_from_is_err_and}
use Rattle.factor.proofs.Factors.{unions_none, unions_some, rests_refused}
use Rattle.factor.proofs.factor_unions.Goals as goal

pub returns-then-shared-eq0 : goal.returns-then-shared-eq0
returns-then-shared-eq0 c = unions_none c.shared_members-shared.ensures c.if-shared-eq0.true c.joined.ensures

pub returns-in_err-rests : goal.returns-in_err-rests
returns-in_err-rests c =
    let p = err_from_is_err_and c.from_residual.result c.from_residual.ensures.1 in
    rw (p.1, p.2) (unions_some c.shared_members-shared.ensures c.if-shared-eq0.false c.in_err-rests.ensures (rests_refused refl refl))

pub returns : goal.returns
returns c = unions_some c.shared_members-shared.ensures c.if-shared-eq0.false c.in_ok-rests.ensures c.factor_rests.ensures
