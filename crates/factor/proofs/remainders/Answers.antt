use mathlib.Core.Path.{refl}
use Rattle.std.proofs.lemmas.Result.{err_from_is_err_and}
use borrow.Author.Rules.{rules}
use Rattle.factor.proofs.Factors.{leaving_start, leaving_more, leaves_refused, leaves_done}
use Rattle.factor.proofs.remainders.Goals as goal

pub loop-i-init : goal.loop-i-init
loop-i-init c = leaving_start (search rules)

pub returns-in_err-k : goal.returns-in_err-k
returns-in_err-k c =
    let p = err_from_is_err_and c.from_residual.result c.from_residual.ensures.1 in
    rw (p.1, p.2) (leaves_refused c.loop-i.invariant c.in_err-k.ensures c.loop-i-test.true c.at.ensures refl refl)

pub loop-i-preserved : goal.loop-i-preserved
loop-i-preserved c = leaving_more c.loop-i.invariant c.in_ok-k.ensures c.loop-i-test.true c.at.ensures refl c.remainder.auto.arena

pub returns : goal.returns
returns c = leaves_done c.loop-i.invariant c.loop-i-test.false
