-- `text::mark` meets its contract. Assumes nothing.
use Rattle.text.proofs.Leaves.{mark_is}
use Rattle.text.proofs.mark.Goals as goal

pub returns : goal.returns
returns c = mark_is c.requires.0 c.requires.1 c.eq.ensures
