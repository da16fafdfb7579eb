use Rattle.simplify.proofs.OwnKeys.{counts_none, counts_set}
use Rattle.simplify.proofs.own_keys.count_member.Goals as goal

pub returns-then-not-is : goal.returns-then-not-is
returns-then-not-is c = search counts_none

pub returns : goal.returns
returns c = search counts_set
