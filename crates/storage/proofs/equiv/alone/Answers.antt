use Rattle.storage.proofs.Forests.{lone_done}
use Rattle.storage.proofs.equiv.alone.Goals as goal

pub returns : goal.returns
returns c = search lone_done
