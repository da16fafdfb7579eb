use Rattle.composites.proofs.Settled.{first_nowhere, first_at}
use Rattle.composites.proofs.lists.first_of.Goals as goal

pub returns-then-m-eq0 : goal.returns-then-m-eq0
returns-then-m-eq0 c = search first_nowhere

pub returns : goal.returns
returns c = search first_at
