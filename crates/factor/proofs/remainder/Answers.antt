-- What is left is the union without the list, and `sole` of it is what the rules add.
use Rattle.factor.proofs.Factors.{remains_is}
use Rattle.factor.proofs.remainder.Goals as goal

pub returns : goal.returns
returns c = remains_is c.unshared_members-rest.ensures c.sole-part.ensures (c.grow.ensures.grows c.sole-part.new.q)
