use Rattle.answers.proofs.Mixing.{tab_none, tab_one}
use Rattle.answers.proofs.mixed.tab_before.Goals as goal

pub returns-then-i-ne0 : goal.returns-then-i-ne0
returns-then-i-ne0 c = search tab_one

pub returns-else-i-ne0 : goal.returns-else-i-ne0
returns-else-i-ne0 c = search tab_none
