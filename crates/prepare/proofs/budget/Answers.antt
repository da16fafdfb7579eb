use Rattle.prepare.proofs.Facts.{budget_short, budget_is}
use Rattle.prepare.proofs.budget.Goals as goal

pub returns-then-at-add : goal.returns-then-at-add
returns-then-at-add c = search budget_short

pub returns : goal.returns
returns c = search budget_is
