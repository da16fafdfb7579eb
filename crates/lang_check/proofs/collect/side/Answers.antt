use Rattle.lang_check.proofs.Steps.{side_first, side_other}
use Rattle.lang_check.proofs.collect.side.Goals as goal

pub returns-then-i-eq0 : goal.returns-then-i-eq0
returns-then-i-eq0 c = search side_first

pub returns-else-i-eq0 : goal.returns-else-i-eq0
returns-else-i-eq0 c = search side_other
