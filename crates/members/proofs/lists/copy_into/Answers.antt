use native.Mathlib.Omega.{arith}
use Rattle.members.proofs.Gathered.{filling_start, filling_more, copied_is}
use Rattle.members.proofs.lists.copy_into.Goals as goal

pub loop-i-init : goal.loop-i-init
loop-i-init c = search filling_start

pub loop-i-preserved : goal.loop-i-preserved
loop-i-preserved c =
    filling_more c.loop-i.invariant c.loop-i-test.true c.place.ensures (omega arith) c.at.ensures
    c.put.ensures

pub returns : goal.returns
returns c = copied_is c.loop-i.invariant c.loop-i-test.false c.add.ensures
