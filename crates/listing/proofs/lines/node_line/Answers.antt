use Rattle.lang_ty.proofs.Words.{numbered}
use Rattle.listing.proofs.NodeLines.{node_line_is}
use Rattle.listing.proofs.lines.node_line.Goals as goal

pub returns : goal.returns
returns c = search (node_line_is, numbered c.kind.ensures c.number.ensures)
