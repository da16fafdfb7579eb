use Rattle.members.proofs.Flattened.{one_nested, one_plain}
use Rattle.members.proofs.flatten.flatten_one.Goals as goal

pub returns-then-is_of : goal.returns-then-is_of
returns-then-is_of c = search one_nested

pub returns : goal.returns
returns c = search one_plain
