use Rattle.composites.proofs.Settled.{first_there, first_none}
use Rattle.composites.proofs.lists.first_or_bottom.Goals as goal

pub returns-in-Some : goal.returns-in-Some
returns-in-Some c = first_there c.in-Some.is

pub returns-in-None : goal.returns-in-None
returns-in-None c = first_none c.in-None.is c.store_leaf.ensures
