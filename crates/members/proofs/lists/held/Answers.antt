use Rattle.members.proofs.Gathered.{filling_start, filling_more, held_is}
use native.Mathlib.Omega.{arith}
use Rattle.members.proofs.lists.held.Goals as goal

pub loop-i-init : goal.loop-i-init
loop-i-init c = search filling_start

pub loop-i-preserved : goal.loop-i-preserved
loop-i-preserved c =
    filling_more c.loop-i.invariant c.loop-i-test.true (omega arith) c.place.ensures c.get.ensures
    c.set.ensures

pub returns : goal.returns
returns c = held_is c.loop-i.invariant c.loop-i-test.false
