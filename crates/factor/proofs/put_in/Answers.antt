use Rattle.factor.proofs.Factors.{putting_start, putting_more, putting_done}
use borrow.Author.Rules.{rules}
use Rattle.factor.proofs.put_in.Goals as goal

pub loop-j-init : goal.loop-j-init
loop-j-init c = (putting_start, search rules)

pub loop-j-preserved : goal.loop-j-preserved
loop-j-preserved c = (search putting_more, search rules)

pub returns : goal.returns
returns c = search putting_done
