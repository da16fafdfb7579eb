use mathlib.Core.Path.{ap, ◌∙◌}
use Rattle.std.specs.Prelude.{ℕ, Option, Result, Ok}
use Rattle.rules.specs.declared.Refusal.{Refusal}
use Rattle.members.specs.AtMostOne.{at_most_one}
use Rattle.members.proofs.Gathered.{grow_one}
use Rattle.members.proofs.lists.grow.Goals as goal

pub returns-in-Some-clause-grows : goal.returns-in-Some-clause-grows
returns-in-Some-clause-grows c q = grow_one (ap (λ (v : Result (Option ℕ) Refusal). at_most_one v q) (c.in_ok-p.was ∙ ap Ok c.in-Some.is)) c.set.ensures c.add.ensures
