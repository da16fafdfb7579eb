use mathlib.Core.Path.{refl}
use Rattle.factor.proofs.Factors.{rests_on}
use Rattle.factor.proofs.factor_rests.Goals as goal

pub returns : goal.returns
returns c = rests_on refl c.sort-inorder.ensures c.joined-parts.ensures c.mark_sorted.ensures c.factored.ensures
