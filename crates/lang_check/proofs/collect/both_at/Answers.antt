use Rattle.lang_check.proofs.Steps.{both_at}
use Rattle.lang_check.proofs.collect.both_at.Goals as goal

pub returns : goal.returns
returns c = search both_at
