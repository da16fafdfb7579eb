use Rattle.listing.proofs.NodeLines.{node_lines_more, node_lines_done}
use Rattle.listing.proofs.lines.node_lines.Goals as goal

pub loop-k-preserved : goal.loop-k-preserved
loop-k-preserved c = search node_lines_more

pub returns : goal.returns
returns c = search node_lines_done
