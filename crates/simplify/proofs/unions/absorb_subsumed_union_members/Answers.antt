use Rattle.simplify.proofs.Marked.{absorbing_start, absorbing_more, absorbing_done}
use borrow.Author.Rules.{rules}
use Rattle.simplify.proofs.unions.absorb_subsumed_union_members.Goals as goal

pub loop-i-init : goal.loop-i-init
loop-i-init c = (absorbing_start, search rules)

pub loop-i-preserved : goal.loop-i-preserved
loop-i-preserved c = (search absorbing_more, search rules)

pub returns : goal.returns
returns c = absorbing_done c.loop-i.invariant.0 c.loop-i-test.false c.left.ensures
