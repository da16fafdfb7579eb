-- `old_listing::root_lines` meets its contract: the root's own line tells how many lines of nodes there are after it. Assumes nothing.
use Rattle.old_listing.proofs.Takes.{line_room, root_bad, root_good, root_last, root_ready}
use Rattle.std.proofs.Common.{arith}
use Rattle.std.proofs.lemmas.Result.{err_from_is_err_and}
use Rattle.old_listing.proofs.root_lines.Goals as goal

pub returns-in_err-e : goal.returns-in_err-e
returns-in_err-e c =
    let p = err_from_is_err_and c.from_residual.result c.from_residual.ensures.1 in
    rw (p.1, p.2) (root_last c.in_err-e.ensures)

pub nodes_after-requires : goal.nodes_after-requires
nodes_after-requires c = search (line_room, c.in_ok-e.ensures)

pub returns-in_err-n : goal.returns-in_err-n
returns-in_err-n c =
    let p = err_from_is_err_and c.from_residual-in_err-n.result c.from_residual-in_err-n.ensures.1 in
    rw (p.1, p.2) (root_bad c.in_ok-e.ensures c.nodes_after.ensures (grind arith) (grind arith))

pub nodes-requires : goal.nodes-requires
nodes-requires c = search (root_ready, c.in_ok-e.ensures)

pub returns : goal.returns
returns c = root_good c.in_ok-e.ensures c.nodes_after.ensures (grind arith) c.nodes.ensures
