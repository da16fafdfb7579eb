use Rattle.members.proofs.Gathered.{joined_is}
use Rattle.members.proofs.lists.joined.Goals as goal

pub returns : goal.returns
returns c = search joined_is
