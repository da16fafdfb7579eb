use Rattle.storage.proofs.HeldIds.{if_kept}
use Rattle.storage.proofs.held.hold_if.Goals as goal

pub returns : goal.returns
returns c = search if_kept
