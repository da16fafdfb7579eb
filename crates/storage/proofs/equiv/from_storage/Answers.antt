-- `storage::equiv::from_storage` meets its contract: single ids are joined pair by pair, and then each parent is the representative. Assumes nothing.
use Rattle.storage.proofs.Forests.{represents_is}
use Rattle.storage.proofs.equiv.from_storage.Goals as goal

pub returns : goal.returns
returns c = search represents_is
