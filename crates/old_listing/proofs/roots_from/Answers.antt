use Rattle.old_listing.proofs.Takes.{rooting_done, rooting_fault, rooting_more, rooting_ready, rooting_start, rooting_surplus}
use borrow.Author.Rules.{rules}
use Rattle.std.proofs.lemmas.Result.{err_from_is_err_and}
use Rattle.old_listing.proofs.roots_from.Goals as goal

pub loop-i-init : goal.loop-i-init
loop-i-init c = (search rooting_start, search rules)

pub root_lines-requires : goal.root_lines-requires
root_lines-requires c = search rooting_ready

pub returns-in_err-next : goal.returns-in_err-next
returns-in_err-next c =
    let p = err_from_is_err_and c.from_residual.result c.from_residual.ensures.1 in
    rw (p.1, p.2) (rooting_fault c.loop-i.invariant.0 c.loop-i-test.true c.set.ensures c.root_at.ensures c.root_lines.ensures c.in_err-next.was)

pub loop-i-preserved : goal.loop-i-preserved
loop-i-preserved c = (rooting_more c.loop-i.invariant.0 c.loop-i-test.true c.set.ensures c.root_at.ensures c.root_lines.ensures c.in_ok-next.was, search rules)

pub returns-then-next-s : goal.returns-then-next-s
returns-then-next-s c = search rooting_surplus

pub returns : goal.returns
returns c = search rooting_done
