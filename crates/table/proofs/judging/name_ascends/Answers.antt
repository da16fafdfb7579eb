-- `table::judging::name_ascends` meets its contract. Assumes nothing.
use Rattle.table.proofs.Verdicts.{name_after_lem, name_first}
use Rattle.table.proofs.judging.name_ascends.Goals as goal

pub returns-then-p-eq0 : goal.returns-then-p-eq0
returns-then-p-eq0 c = search name_first

pub returns : goal.returns
returns c = search name_after_lem
