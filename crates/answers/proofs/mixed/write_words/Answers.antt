use Rattle.answers.proofs.Mixing.{worded_start, worded_next, worded_done}
use Rattle.answers.proofs.mixed.write_words.Goals as goal

pub loop-i-init : goal.loop-i-init
loop-i-init c = search worded_start

pub loop-i-preserved : goal.loop-i-preserved
loop-i-preserved c = search worded_next

pub returns : goal.returns
returns c = search worded_done
