-- The two areas lie one after the other, so that the one that is not at a is apart from it.
use Rattle.merge.proofs.MergeSets.{area_behind, area_first}
use Rattle.merge.proofs.other_area.Goals as goal

pub returns-then-a-h : goal.returns-then-a-h
returns-then-a-h c = search area_behind

pub returns-else-a-h : goal.returns-else-a-h
returns-else-a-h c = search area_first
