use Rattle.simplify.proofs.Marked.{leaving_more, leaving_done}
use borrow.Author.Rules.{rules}
use Rattle.simplify.proofs.unions.left.Goals as goal

pub loop-i-preserved : goal.loop-i-preserved
loop-i-preserved c = (search leaving_more, search rules)

pub returns : goal.returns
returns c = leaving_done c.loop-i.invariant.0 c.loop-i-test.false
