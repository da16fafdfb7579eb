use mathlib.Core.Path.{ap}
use Rattle.std.specs.Prelude.{ℕ, Result}
use Rattle.rules.specs.declared.Refusal.{Refusal}
use Rattle.lang_ty.specs.Given.{given}
use Rattle.members.proofs.Gathered.{last_node}
use Rattle.members.proofs.lists.with_last.Goals as goal

pub returns-clause-adds : goal.returns-clause-adds
returns-clause-adds c q = last_node (ap (λ (v : Result ℕ Refusal). given v q) c.in_ok-x.was) c.one.ensures c.joined.ensures
