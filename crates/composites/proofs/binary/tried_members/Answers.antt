use mathlib.Core.Path.{refl}
use Rattle.composites.proofs.Tries.{steps_on, members_once, members_twice}
use Rattle.composites.proofs.binary.tried_members.Goals as goal

pub returns-in-First : goal.returns-in-First
returns-in-First c = members_once c.in-First.is

pub returns-in-Again : goal.returns-in-Again
returns-in-Again c = members_twice c.in-Again.is (steps_on refl c.simplify_union_neg_intersection.ensures)
