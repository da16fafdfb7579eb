-- Field i is the words 2 i and 2 i + 1 of those of all fields, and the first of the two is its key.
use Rattle.merge.proofs.MergeFields.{held_key_is}
use Rattle.merge.proofs.held_key.Goals as goal

pub returns : goal.returns
returns c = search held_key_is
