use Rattle.composites.proofs.NormalBounds.{normalized_positive, normalized_negative}
use Rattle.composites.proofs.bounds.normalize.Goals as goal

pub returns-in-Positive : goal.returns-in-Positive
returns-in-Positive c = search normalized_positive

pub returns-in-Negative : goal.returns-in-Negative
returns-in-Negative c = search normalized_negative
