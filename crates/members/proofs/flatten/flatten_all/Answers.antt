use Rattle.members.proofs.Flattened.{flattening_start, flattening_more, flattening_done}
use borrow.Author.Rules.{rules}
use Rattle.members.proofs.flatten.flatten_all.Goals as goal

pub loop-i-init : goal.loop-i-init
loop-i-init c = (flattening_start, search rules)

pub loop-i-preserved : goal.loop-i-preserved
loop-i-preserved c =
    (flattening_more c.loop-i.invariant.0 c.loop-i-test.true c.at-x.ensures c.flatten_one-k.ensures, search rules)

pub returns : goal.returns
returns c = flattening_done c.loop-i.invariant.0 c.loop-i-test.false
