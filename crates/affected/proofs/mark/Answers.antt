-- Just the entries in the queue are marked: one with a mark stands there already, and one without gets its mark and its place together.
use Rattle.affected.proofs.Queueing.{mark_old, mark_new}
use Rattle.affected.proofs.mark.Goals as goal

pub returns-then-get-ne0 : goal.returns-then-get-ne0
returns-then-get-ne0 c = search mark_old

pub returns : goal.returns
returns c = search mark_new
