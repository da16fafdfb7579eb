use mathlib.Core.Path.{ap}
use Rattle.lang_ty.specs.Nodes.{code}
use Rattle.members.proofs.Gathered.{drops_filler, drops_none, drops_past, drops_fact}
use Rattle.members.proofs.lists.should_drop_filler.Goals as goal

pub returns-in-Bottom : goal.returns-in-Bottom
returns-in-Bottom c = search drops_filler

pub returns-then-count-v : goal.returns-then-count-v
returns-then-count-v c = search (drops_past, ap code c.in-TyVar.is)

pub returns-else-count-v : goal.returns-else-count-v
returns-else-count-v c = search (drops_fact, ap code c.in-TyVar.is)

pub returns-in_default : goal.returns-in_default
returns-in_default c = search drops_none
