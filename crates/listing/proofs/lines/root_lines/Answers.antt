use Rattle.listing.proofs.NodeLines.{root_lines_is}
use Rattle.listing.proofs.lines.root_lines.Goals as goal

pub returns : goal.returns
returns c = search root_lines_is
