use mathlib.Core.Path.{ap}
use Rattle.std.proofs.lemmas.Result.{err_from_is_err_and}
use Rattle.lang_ty.specs.Given.{given}
use Rattle.negation.proofs.Turning.{negates_single, negates_recalled, negating_start, negates_never, negating_more, negates_refused, negates_done}
use Rattle.negation.proofs.+negate.Goals as goal

pub returns-then-n-eq0 : goal.returns-then-n-eq0
returns-then-n-eq0 t c = search negates_single

pub returns-in-Some : goal.returns-in-Some
returns-in-Some t c = search negates_recalled

pub loop-i-init : goal.loop-i-init
loop-i-init t c = negating_start

pub returns-then-x-m : goal.returns-then-x-m
returns-then-x-m t c = search negates_never

pub loop-i-preserved : goal.loop-i-preserved
loop-i-preserved t c =
    negating_more c.count-n.ensures c.if-n-eq0.false c.loop-i.invariant c.loop-i-test.true c.member-m.ensures c.if-x-m.false c.add.ensures
    c.negate.ensures (ap (λ r. given r c.negate.new.q) c.in_ok-y.was) c.negate.auto.held c.place.ensures c.put.ensures

pub returns-in_err-y : goal.returns-in_err-y
returns-in_err-y t c =
    let p = err_from_is_err_and c.from_residual.result c.from_residual.ensures.1 in
    rw (p.1, p.2) (negates_refused c.count-n.ensures c.if-n-eq0.false c.loop-i.invariant c.loop-i-test.true c.member-m.ensures c.if-x-m.false
    c.add.ensures c.negate.ensures (ap (λ r. given r c.negate.new.q) c.in_err-y.was))

pub returns : goal.returns
returns t c = negates_done c.count-n.ensures c.if-n-eq0.false c.loop-i.invariant c.loop-i-test.false c.loop-i.auto.i-end c.complete.ensures
