use Rattle.members.proofs.Gathered.{keeps_not, keeps_one}
use Rattle.members.proofs.lists.keep_if.Goals as goal

pub returns-then-not-kept : goal.returns-then-not-kept
returns-then-not-kept c = search keeps_not

pub returns : goal.returns
returns c = search keeps_one
