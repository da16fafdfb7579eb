use mathlib.Core.Path.{ap}
use Rattle.std.proofs.lemmas.Result.{err_from_is_err_and}
use Rattle.lang_ty.specs.Given.{given}
use Rattle.negation.proofs.Turning.{completes_node, completes_refused}
use Rattle.negation.proofs.complete.Goals as goal

pub returns-in_err-y : goal.returns-in_err-y
returns-in_err-y c =
    let p = err_from_is_err_and c.from_residual.result c.from_residual.ensures.1 in
    rw (p.1, p.2) (completes_refused c.store_negation.ensures (ap (λ r. given r c.store_negation.new.q) c.in_err-y.was))

pub returns : goal.returns
returns c = completes_node c.store_negation.ensures (ap (λ r. given r c.store_negation.new.q) c.in_ok-y.was) c.remember.ensures
