-- Once there are more than fit, the count alone says so, and whatever else is added does not change that.
use Rattle.members.proofs.Flattened.{new_full, new_there, new_here}
use Rattle.members.proofs.flatten.add_new.Goals as goal

pub returns-then-k-gt-MEMBERS : goal.returns-then-k-gt-MEMBERS
returns-then-k-gt-MEMBERS c = search new_full

pub returns-then-contains : goal.returns-then-contains
returns-then-contains c = search new_there

pub returns : goal.returns
returns c = search new_here
