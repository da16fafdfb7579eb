use Rattle.lang_ty.proofs.Find.{walking_start, walking_here, walking_lost, walking_more, walking_done}
use borrow.Author.Rules.{rules}
use Rattle.lang_ty.proofs.arena.find.Goals as goal

pub loop-p-init : goal.loop-p-init
loop-p-init c = walking_start (search rules) (search rules)

pub returns-then-hit : goal.returns-then-hit
returns-then-hit c = search walking_here

pub returns-then-p-e : goal.returns-then-p-e
returns-then-p-e c = search walking_lost

pub loop-p-preserved : goal.loop-p-preserved
loop-p-preserved c = search walking_more

pub returns : goal.returns
returns c = search walking_done
