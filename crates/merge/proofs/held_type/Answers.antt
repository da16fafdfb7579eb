-- Field i is the words 2 i and 2 i + 1 of those of all fields, and the second of the two is its type.
use Rattle.merge.proofs.MergeFields.{held_type_is}
use Rattle.merge.proofs.held_type.Goals as goal

pub returns : goal.returns
returns c = search held_type_is
