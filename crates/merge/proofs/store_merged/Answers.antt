-- What is written after the last row is, front and back together, the row of the merged node.
use Rattle.merge.proofs.MergeStore.{stores_merged}
use Rattle.merge.proofs.store_merged.Goals as goal

pub returns : goal.returns
returns c = search stores_merged
