use Rattle.storage.proofs.Variables.{variable_is}
use Rattle.storage.proofs.vars.variable.Goals as goal

pub returns : goal.returns
returns c = search variable_is
