-- Where x is not kept nothing is written and nothing is to be added.
use Rattle.merge.proofs.Sieving.{puts_none, puts_one}
use Rattle.merge.proofs.put_if.Goals as goal

pub returns-then-not-kept : goal.returns-then-not-kept
returns-then-not-kept c = search puts_none

pub returns : goal.returns
returns c = search puts_one
