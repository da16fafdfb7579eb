use Rattle.simplify.proofs.Marked.{taken_own, taken_gone, taken_none, marking_more, marking_done}
use borrow.Author.Rules.{rules}
use Rattle.simplify.proofs.unions.mark_taken.Goals.{then-at-ne0-via-then-at-ne0, then-at-ne0-via-else-at-ne0+then-at-ne0-2}
use Rattle.simplify.proofs.unions.mark_taken.Goals as goal

pub returns-then-at-ne0 : goal.returns-then-at-ne0
returns-then-at-ne0 c =
    elim c.then-at-ne0.branch [
      | then-at-ne0-via-then-at-ne0 w ↦ taken_own c.at.ensures w.if-at-ne0.true
      | then-at-ne0-via-else-at-ne0+then-at-ne0-2 w ↦ taken_gone w.at-else-at-ne0.ensures w.if-at-ne0-2.true
    ]

pub returns-then-not-is : goal.returns-then-not-is
returns-then-not-is c = search taken_none

pub loop-j-preserved : goal.loop-j-preserved
loop-j-preserved c = (search marking_more, search rules)

pub returns : goal.returns
returns c = search marking_done
