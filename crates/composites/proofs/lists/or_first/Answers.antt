use mathlib.Core.Path.{ap, ◌∙◌}
use Rattle.std.specs.Prelude.{Ok}
use Rattle.std.proofs.lemmas.Result.{err_from_is_err_and}
use Rattle.composites.specs.Settled.{settled}
use Rattle.composites.specs.declared.lists.Ending.{Ending}
use Rattle.composites.proofs.Settled.{or_node, or_empty, or_refused}
use Rattle.composites.proofs.lists.or_first.Goals as goal

pub returns-in_err-x : goal.returns-in_err-x
returns-in_err-x c =
    let p = err_from_is_err_and c.from_residual.result c.from_residual.ensures.1 in
    rw (p.1, p.2) (or_refused (ap (λ v. settled v c.args.q.now) c.in_err-x.was))

pub returns-in-Node : goal.returns-in-Node
returns-in-Node c =
    or_node (ap (λ v. settled v c.args.q.now) c.in_ok-x.was ∙ ap (λ (v : Ending). settled (Ok v) c.args.q.now) c.in-Node.is)

pub returns-in-Empty : goal.returns-in-Empty
returns-in-Empty c =
    or_empty (ap (λ v. settled v c.args.q.now) c.in_ok-x.was ∙ ap (λ (v : Ending). settled (Ok v) c.args.q.now) c.in-Empty.is) c.first_or_bottom.ensures
