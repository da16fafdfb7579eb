use Rattle.programs.proofs.Cutting.{seeking_start, seeking_more, seeking_found, seeking_done}
use Rattle.programs.proofs.until_next.Goals as goal

pub loop-i-init : goal.loop-i-init
loop-i-init c = search seeking_start

pub returns-then-is_next : goal.returns-then-is_next
returns-then-is_next c = search seeking_found

pub loop-i-preserved : goal.loop-i-preserved
loop-i-preserved c = search seeking_more

pub returns : goal.returns
returns c = search seeking_done
