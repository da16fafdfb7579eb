-- What was written stands at the beginning of the output, and the line of a refusal is always short enough for it.
use Rattle.std.proofs.Common.{rules}
use Rattle.programs.proofs.Showing.{shows_written, shows_refused}
use Rattle.programs.proofs.shown.Goals as goal

pub returns-in-Ok : goal.returns-in-Ok
returns-in-Ok c = shows_written c.in-Ok.is

pub returns-in-Err : goal.returns-in-Err
returns-in-Err c = shows_refused c.in-Err.is c.number.ensures (search rules) (search rules) (search rules)
