use Rattle.simplify.proofs.Simplified.{simplifying_more, simplifying_refused, simplifying_done}
use borrow.Author.Rules.{rules}
use Rattle.simplify.proofs.intersections.simplify_each.Goals as goal

pub loop-i-preserved : goal.loop-i-preserved
loop-i-preserved c = (
  simplifying_more c.loop-i.invariant.0 c.loop-i-test.true c.at.ensures c.in_ok-k.ensures,
  search rules,
  search rules,
)

pub returns-in_err-k : goal.returns-in_err-k
returns-in_err-k c = search (rules, simplifying_refused)

pub returns : goal.returns
returns c = simplifying_done c.loop-i.invariant.0 c.loop-i-test.false
