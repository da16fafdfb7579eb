-- What the sets leave of the keys listed is what is written.
use Rattle.merge.proofs.MergeStore.{writes_optional}
use Rattle.merge.proofs.write_optional.Goals as goal

pub returns : goal.returns
returns c = search writes_optional
