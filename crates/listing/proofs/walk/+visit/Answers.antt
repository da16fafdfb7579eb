use Rattle.listing.proofs.Numbering.{visits_seen, visiting_start, visiting_more, visiting_past, visiting_done}
use Rattle.listing.proofs.walk.+visit.Goals as goal
use Rattle.listing.proofs.walk.+visit.Goals.{then-c-x, else-c-x}

pub returns-then-at-ne0 : goal.returns-then-at-ne0
returns-then-at-ne0 t c = search visits_seen

pub loop-i-init : goal.loop-i-init
loop-i-init t c = visiting_start

pub loop-i-preserved : goal.loop-i-preserved
loop-i-preserved t c = elim c.if-c-x.branch [ then-c-x w ↦ search visiting_more | else-c-x w ↦ search visiting_past ]

pub returns : goal.returns
returns t c = search visiting_done
