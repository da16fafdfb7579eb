-- `storage::equiv::union` meets its contract: the end of the first chain gets the end of the second as its parent, and an id past the entries joins nothing. Assumes nothing.
use Rattle.storage.proofs.Forests.{unites_both}
use Rattle.storage.proofs.equiv.union.Goals as goal

pub returns : goal.returns
returns c = search unites_both
