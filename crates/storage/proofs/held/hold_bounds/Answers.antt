use Rattle.storage.proofs.HeldIds.{bounding_more, bounding_done}
use borrow.Author.Rules.{rules}
use Rattle.storage.proofs.held.hold_bounds.Goals as goal

pub loop-i-preserved : goal.loop-i-preserved
loop-i-preserved g c = (search bounding_more, search rules)

pub returns : goal.returns
returns g c = search bounding_done
