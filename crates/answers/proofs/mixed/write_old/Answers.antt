-- A part that ends before it begins is empty, and of one that ends past the listing nothing is promised.
use mathlib.Core.Path.{refl}
use Rattle.answers.proofs.Mixing.{old_none, old_some}
use Rattle.answers.proofs.mixed.write_old.Goals as goal

pub returns-in-Some : goal.returns-in-Some
returns-in-Some c = (c.word.ensures.0, old_some c.in-Some.ensures.lookup.0.0 c.in-Some.ensures.lookup.0.2 c.word.ensures.1)

pub returns-in_default : goal.returns-in_default
returns-in_default c = (refl, old_none c.in_default.ensures.lookup.0)
