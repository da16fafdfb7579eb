use borrow.Author.Rules.{rules}
use mathlib.Core.Path.{refl}
use Rattle.std.proofs.lemmas.Result.{err_from_is_err_and}
use Rattle.merge.proofs.MergeSets.{passing_start, passing_more, passing_refused, passing_done}
use Rattle.merge.proofs.merge_sets.Goals as goal

pub loop-i-init : goal.loop-i-init
loop-i-init c = passing_start (search rules)

pub loop-i-preserved : goal.loop-i-preserved
loop-i-preserved c =
    passing_more c.loop-i.invariant c.in_ok-g.ensures c.loop-i-test.true c.at.ensures refl c.merge_one.auto.arena c.merge_one.auto.held

pub returns-in_err-g : goal.returns-in_err-g
returns-in_err-g c =
    let p = err_from_is_err_and c.from_residual.result c.from_residual.ensures.1 in
    rw (p.1, p.2) (passing_refused c.loop-i.invariant c.in_err-g.ensures c.loop-i-test.true c.at.ensures refl)

pub returns : goal.returns
returns c = search passing_done
