use Rattle.composites.proofs.Settled.{emptied_positive, emptied_negative}
use Rattle.composites.proofs.lists.top_if_emptied.Goals as goal

pub returns-in-Positive : goal.returns-in-Positive
returns-in-Positive c = search emptied_positive

pub returns-in-Negative : goal.returns-in-Negative
returns-in-Negative c = search emptied_negative
