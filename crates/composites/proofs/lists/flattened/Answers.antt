use mathlib.Core.Path.{refl, ap}
use Rattle.std.proofs.lemmas.Result.{err_from_is_err_and}
use Rattle.members.specs.Flow.{flow}
use Rattle.composites.proofs.Settled.{flat_refused, flat_many, flat_over, flat_on}
use Rattle.composites.proofs.lists.flattened.Goals as goal

pub returns-in_err-f : goal.returns-in_err-f
returns-in_err-f c q =
    let p = err_from_is_err_and c.from_residual.result c.from_residual.ensures.1 in
    rw (p.1, p.2) (flat_refused (ap (λ v. flow v q) c.in_err-f.was) refl)

pub returns-then-n-gt-MEMBERS : goal.returns-then-n-gt-MEMBERS
returns-then-n-gt-MEMBERS c q = flat_many (ap (λ v. flow v q) c.in_ok-f.was) c.if-n-gt-MEMBERS.true refl

pub returns-then-m-gt-MEMBERS : goal.returns-then-m-gt-MEMBERS
returns-then-m-gt-MEMBERS c q =
    flat_over (ap (λ v. flow v q) c.in_ok-f.was) c.if-n-gt-MEMBERS.false c.held.ensures c.flatten_composite-m.ensures c.if-m-gt-MEMBERS.true refl

pub returns : goal.returns
returns c q =
    flat_on (ap (λ v. flow v q) c.in_ok-f.was) c.if-n-gt-MEMBERS.false c.held.ensures c.flatten_composite-m.ensures c.if-m-gt-MEMBERS.false
