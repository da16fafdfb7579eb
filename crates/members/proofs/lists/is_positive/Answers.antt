use Rattle.members.proofs.Gathered.{positive_no, positive_yes}
use Rattle.members.proofs.lists.is_positive.Goals as goal

pub returns-in-Neg : goal.returns-in-Neg
returns-in-Neg c = search positive_no

pub returns-in_default : goal.returns-in_default
returns-in_default c = search positive_yes
