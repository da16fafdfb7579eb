-- The sets are still nodes as they were, so that the rules' node is what is stored.
use Rattle.merge.proofs.MergeStore.{last_merged}
use Rattle.merge.proofs.merged_last.Goals as goal

pub returns : goal.returns
returns c = last_merged c.other_area-b.ensures c.store_merged-x.ensures (c.with_last.ensures.adds c.store_merged-x.new.q)
