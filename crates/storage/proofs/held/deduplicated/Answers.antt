-- `storage::held::deduplicated` meets its contract: of more than 16 ids the first of each is kept, and the marks that tell them are taken away again. Assumes nothing.
use Rattle.storage.proofs.HeldOnce.{dedup_many}
use Rattle.storage.proofs.held.deduplicated.Goals as goal

pub returns : goal.returns
returns c = search dedup_many
