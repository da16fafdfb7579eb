use Rattle.storage.proofs.HeldIds.{fielding_start, fielding_more}
use borrow.Author.Rules.{rules}
use Rattle.storage.proofs.held.hold_fields.Goals as goal

pub loop-i-init : goal.loop-i-init
loop-i-init c = (search fielding_start, search rules, search rules)

pub loop-i-preserved : goal.loop-i-preserved
loop-i-preserved c = (search fielding_more, search rules, search rules)
