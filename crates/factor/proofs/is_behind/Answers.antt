use mathlib.Core.Logic.{⊎_elim}
use Rattle.factor.proofs.Factors.{behind_less, behind_equal, behind_greater}
use Rattle.factor.proofs.is_behind.Goals as goal

pub returns-in-Less : goal.returns-in-Less
returns-in-Less c = ⊎_elim (behind_less c.compare.ensures) (behind_equal c.compare.ensures) c.in-Less.is

pub returns-in-Greater : goal.returns-in-Greater
returns-in-Greater c = search behind_greater
