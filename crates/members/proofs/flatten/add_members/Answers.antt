use Rattle.members.proofs.Flattened.{adding_start, adding_more, adding_done}
use borrow.Author.Rules.{rules}
use Rattle.members.proofs.flatten.add_members.Goals as goal

pub loop-i-init : goal.loop-i-init
loop-i-init c = (adding_start, search rules)

pub loop-i-preserved : goal.loop-i-preserved
loop-i-preserved c = (
  adding_more c.count-n.ensures c.loop-i.invariant.0 c.loop-i-test.true c.member.ensures c.add_new-got.ensures,
  search rules,
)

pub returns : goal.returns
returns c = adding_done c.count-n.ensures c.loop-i.invariant.0 c.loop-i-test.false
