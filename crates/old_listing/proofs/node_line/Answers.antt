-- `old_listing::node_line` meets its contract: a line in form is the number of the node and, after a tab, a row that fits it. Assumes nothing.
use Rattle.old_listing.proofs.Takes.{line_bad, line_bare, line_good, line_misnumbered, line_unnumbered}
use Rattle.old_listing.proofs.node_line.Goals.{then-n-i-via-then-n-i, then-n-i-via-else-n-i+then-k-to}
use Rattle.old_listing.proofs.node_line.Goals as goal

pub returns-in_default : goal.returns-in_default
returns-in_default c = search line_unnumbered

pub returns-then-n-i : goal.returns-then-n-i
returns-then-n-i c = elim c.then-n-i.branch [
  | then-n-i-via-then-n-i w ↦ search line_misnumbered
  | then-n-i-via-else-n-i+then-k-to w ↦ search line_bare
]

pub returns-in_default-node_row : goal.returns-in_default-node_row
returns-in_default-node_row c = search line_bad

pub returns : goal.returns
returns c = search line_good
