use mathlib.Core.Path.{refl}
use Rattle.members.proofs.Gathered.{sole_none, sole_one, sole_stored}
use Rattle.members.proofs.lists.sole.Goals as goal

pub returns-then-n-eq0 : goal.returns-then-n-eq0
returns-then-n-eq0 c = search sole_none

pub returns-then-n-eq1 : goal.returns-then-n-eq1
returns-then-n-eq1 c = search sole_one

pub returns : goal.returns
returns c = sole_stored c.if-n-eq0.false c.if-n-eq1.false c.in_ok-x.ensures refl
