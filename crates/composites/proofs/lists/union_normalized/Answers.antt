use Rattle.composites.proofs.Settled.{union_positive, union_negative}
use Rattle.composites.proofs.lists.union_normalized.Goals as goal

pub returns-in-Positive : goal.returns-in-Positive
returns-in-Positive c = search union_positive

pub returns-in-Negative : goal.returns-in-Negative
returns-in-Negative c = search union_negative
