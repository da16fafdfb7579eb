use Rattle.old_listing.proofs.Takes.{line_room, walk_bad, walk_done, walk_last, walk_more, walk_start}
use borrow.Author.Rules.{rules}
use Rattle.std.proofs.lemmas.Result.{err_from_is_err_and}
use Rattle.old_listing.proofs.nodes.Goals as goal

pub loop-i-init : goal.loop-i-init
loop-i-init c = (search walk_start, search rules)

pub node_line-requires : goal.node_line-requires
node_line-requires c = search (line_room, c.in_ok-e.ensures)

pub returns-then-not-node_line : goal.returns-then-not-node_line
returns-then-not-node_line c = search (walk_bad, c.in_ok-e.ensures)

pub loop-i-preserved : goal.loop-i-preserved
loop-i-preserved c = (search (walk_more, c.in_ok-e.ensures), search rules)

pub returns : goal.returns
returns c = search walk_done

pub returns-in_err-e : goal.returns-in_err-e
returns-in_err-e c =
    let p = err_from_is_err_and c.from_residual.result c.from_residual.ensures.1 in
    rw (p.1, p.2) (walk_last c.loop-i.invariant.0 c.loop-i-test.true c.in_err-e.ensures)
