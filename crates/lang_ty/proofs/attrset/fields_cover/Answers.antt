use Rattle.lang_ty.proofs.Attrsets.{behind_allowed, covering_start, covering_lacks, covering_more, covering_done}
use Rattle.lang_ty.proofs.attrset.fields_cover.Goals as goal

pub walk_behind-w-requires : goal.walk_behind-w-requires
walk_behind-w-requires c = search behind_allowed

pub loop-i-init : goal.loop-i-init
loop-i-init c = search covering_start

pub returns-then-not-w : goal.returns-then-not-w
returns-then-not-w c = search covering_lacks

pub loop-i-preserved : goal.loop-i-preserved
loop-i-preserved c =
    covering_more c.fields-n.ensures c.loop-i.invariant c.loop-i-test.true c.key.ensures
    c.walked-w.ensures c.if-not-w.false

pub returns : goal.returns
returns c = search covering_done
