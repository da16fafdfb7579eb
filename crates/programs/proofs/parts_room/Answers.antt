use Rattle.std.proofs.Common.{rules}
use Rattle.programs.proofs.Enough.{recheck_reads}
use Rattle.programs.proofs.parts_room.Goals as goal

pub returns-clause-enough : goal.returns-clause-enough
returns-clause-enough c = recheck_reads (search rules)
