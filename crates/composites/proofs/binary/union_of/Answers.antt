use Rattle.composites.proofs.Settled.{union_of_is}
use Rattle.composites.proofs.binary.union_of.Goals as goal

pub returns : goal.returns
returns c = union_of_is c.settle_union-e.ensures c.or_first.ensures
