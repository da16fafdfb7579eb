use mathlib.Core.Path.{refl}
use Rattle.std.proofs.lemmas.Result.{err_from_is_err_and}
use Rattle.factor.proofs.Factors.{one_on, one_refused}
use Rattle.factor.proofs.factor_one.Goals as goal

pub returns-in_err-last : goal.returns-in_err-last
returns-in_err-last c =
    let p = err_from_is_err_and c.from_residual.result c.from_residual.ensures.1 in
    rw (p.1, p.2) (one_refused c.members_of-whole.ensures c.in_err-last.ensures refl refl)

pub returns : goal.returns
returns c = one_on c.members_of-whole.ensures c.in_ok-last.ensures (c.of_at_most_one.ensures c.sole.new.q) refl c.joined.ensures
