use Rattle.prepare.proofs.Facts.{marking_start, marking_more, marking_done}
use borrow.Author.Rules.{rules}
use Rattle.prepare.proofs.set_marks.Goals as goal

pub loop-i-init : goal.loop-i-init
loop-i-init c = (marking_start, search rules)

pub loop-i-preserved : goal.loop-i-preserved
loop-i-preserved c = (search marking_more, search rules)

pub returns : goal.returns
returns c = search marking_done
