-- A dyn is the word 0, or the word 1 and its type, and comes right after the words that stand there.
use Rattle.merge.proofs.MergeStore.{dyn_lacks, dyn_has}
use Rattle.merge.proofs.write_dyn.Goals as goal

pub returns-in-None : goal.returns-in-None
returns-in-None c = search dyn_lacks

pub returns-in-Some : goal.returns-in-Some
returns-in-Some c = search dyn_has
