use mathlib.Core.Path.{refl}
use Rattle.std.proofs.lemmas.Result.{err_from_is_err_and}
use Rattle.factor.proofs.Factors.{parts_on, parts_refused, listed_refused}
use Rattle.factor.proofs.factored.Goals as goal

pub returns-in_err-inner : goal.returns-in_err-inner
returns-in_err-inner c =
    let p = err_from_is_err_and c.from_residual.result c.from_residual.ensures.1 in
    rw (p.1, p.2) (parts_refused c.in_err-inner.ensures refl)

pub returns-in_err-whole : goal.returns-in_err-whole
returns-in_err-whole c =
    let p = err_from_is_err_and c.from_residual-in_err-whole.result c.from_residual-in_err-whole.ensures.1 in
    rw (p.1, p.2) (parts_on c.in_ok-inner.ensures (c.of_at_most_one.ensures c.sole_of_any.new.q) refl c.joined-all.ensures
    c.in_err-whole.ensures listed_refused)

pub returns : goal.returns
returns c =
    parts_on c.in_ok-inner.ensures (c.of_at_most_one.ensures c.sole_of_any.new.q) refl c.joined-all.ensures c.in_ok-whole.ensures
    (c.of_at_most_one-2.ensures c.sole_of_any-2.new.q)
