use Rattle.members.proofs.Sifted.{sifting_start, sifting_more, sifting_done}
use Rattle.members.proofs.lists.Members.sift.Goals as goal

pub loop-i-init : goal.loop-i-init
loop-i-init g c = sifting_start

pub loop-i-preserved : goal.loop-i-preserved
loop-i-preserved g c = sifting_more c.loop-i.invariant c.loop-i-test.true c.at-x.ensures c.keep.ensures c.keep_if-k.ensures

pub returns : goal.returns
returns g c = sifting_done c.loop-i.invariant c.loop-i-test.false
