use Rattle.listing.proofs.Heads.{root_line_is}
use Rattle.listing.proofs.lines.root_line.Goals as goal

pub returns : goal.returns
returns c = search root_line_is
