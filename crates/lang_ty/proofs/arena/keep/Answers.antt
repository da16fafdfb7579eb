-- What is written lies before the rows, so each row stands as it did.
use Rattle.lang_ty.proofs.Intern.{kept_full, kept_over, kept_new}
use Rattle.lang_ty.proofs.arena.keep.Goals as goal

pub returns-then-n-ge-NODES : goal.returns-then-n-ge-NODES
returns-then-n-ge-NODES c = search kept_full

pub returns-then-sum-gt-CELLS : goal.returns-then-sum-gt-CELLS
returns-then-sum-gt-CELLS c = search kept_over

pub returns : goal.returns
returns c = search kept_new
