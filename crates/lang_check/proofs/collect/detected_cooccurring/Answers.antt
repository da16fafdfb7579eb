use Rattle.lang_check.proofs.Passes.{detecting_start, detecting_more, detects_none, detects_some}
use Rattle.lang_check.proofs.collect.detected_cooccurring.Goals as goal

pub returns-then-not-any_both : goal.returns-then-not-any_both
returns-then-not-any_both c = search detects_none

pub loop-i-init : goal.loop-i-init
loop-i-init c = search detecting_start

pub loop-i-preserved : goal.loop-i-preserved
loop-i-preserved c = search detecting_more

pub returns : goal.returns
returns c = search detects_some
