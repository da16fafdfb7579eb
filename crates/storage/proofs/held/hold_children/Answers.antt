-- `storage::held::hold_children` meets its contract: the kind of the entry tells which ids are its children, and a kind without any holds none. Assumes nothing.
use Rattle.storage.proofs.HeldIds.{children_none}
use Rattle.storage.proofs.held.hold_children.Goals as goal

pub returns-in_default : goal.returns-in_default
returns-in_default c = search children_none
