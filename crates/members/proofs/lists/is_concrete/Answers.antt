use Rattle.members.proofs.Gathered.{concrete_is}
use Rattle.members.proofs.lists.is_concrete.Goals as goal

pub returns : goal.returns
returns c = search concrete_is
