use mathlib.Core.Path.{refl}
use Rattle.std.proofs.lemmas.Result.{err_from_is_err_and}
use Rattle.composites.proofs.Settled.{settled_node, settled_refused, settle_sole, settle_stored, settle_top, settle_empty}
use Rattle.composites.proofs.lists.settle.Goals as goal

pub returns-then-n-eq1 : goal.returns-then-n-eq1
returns-then-n-eq1 c = settle_sole c.if-n-eq1.true refl

pub returns-then-n-ne0 : goal.returns-then-n-ne0
returns-then-n-ne0 c = settle_stored c.if-n-eq1.false c.if-n-ne0.true c.in_ok-x.ensures (settled_node refl)

pub returns-in_err-x : goal.returns-in_err-x
returns-in_err-x c =
    let p = err_from_is_err_and c.from_residual.result c.from_residual.ensures.1 in
    rw (p.1, p.2) (settle_stored c.if-n-eq1.false c.if-n-ne0.true c.in_err-x.ensures (settled_refused refl))

pub returns-then-cancelled : goal.returns-then-cancelled
returns-then-cancelled c = settle_top c.if-n-ne0.false c.if-cancelled.true c.in_ok-x-2.ensures (settled_node refl)

pub returns-in_err-x-2 : goal.returns-in_err-x-2
returns-in_err-x-2 c =
    let p = err_from_is_err_and c.from_residual-in_err-x-2.result c.from_residual-in_err-x-2.ensures.1 in
    rw (p.1, p.2) (settle_top c.if-n-ne0.false c.if-cancelled.true c.in_err-x-2.ensures (settled_refused refl))

pub returns : goal.returns
returns c = settle_empty c.if-n-ne0.false c.if-cancelled.false
