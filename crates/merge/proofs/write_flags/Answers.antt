-- The flag and the number of keys are the two words before the keys, so that no write touches another's word.
use Rattle.merge.proofs.MergeStore.{writes_flags}
use Rattle.merge.proofs.write_flags.Goals as goal

pub returns : goal.returns
returns c = search writes_flags
