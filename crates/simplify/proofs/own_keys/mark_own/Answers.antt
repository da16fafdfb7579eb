use Rattle.simplify.proofs.OwnKeys.{owning_none, owning_more}
use borrow.Author.Rules.{rules}
use Rattle.simplify.proofs.own_keys.mark_own.Goals as goal

pub returns-then-n-lt16 : goal.returns-then-n-lt16
returns-then-n-lt16 c = owning_none

pub loop-i-init : goal.loop-i-init
loop-i-init c = (owning_none, search rules)

pub loop-i-preserved : goal.loop-i-preserved
loop-i-preserved c = (
  owning_more c.count_members.ensures c.loop-i.invariant.0 c.loop-i-test.true c.at.ensures c.mark_if_own.ensures,
  search rules,
)
