use mathlib.Core.Path.{refl}
use Rattle.factor.proofs.Factors.{runs_none, runs_one, runs_more}
use Rattle.factor.proofs.factor_shared_from_intersection.Goals as goal

pub returns-in-0 : goal.returns-in-0
returns-in-0 c = runs_none c.of_kind-unions.ensures c.of_kind-others.ensures c.in-0.is

pub returns-in-1 : goal.returns-in-1
returns-in-1 c = runs_one c.of_kind-unions.ensures c.of_kind-others.ensures c.in-1.is refl c.factor_one.ensures

pub returns-in_default : goal.returns-in_default
returns-in_default c = search runs_more
