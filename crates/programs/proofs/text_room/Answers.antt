use Rattle.std.proofs.Common.{rules}
use Rattle.programs.proofs.Enough.{canon_reads}
use Rattle.programs.proofs.text_room.Goals as goal

pub returns-clause-enough : goal.returns-clause-enough
returns-clause-enough c = canon_reads (search rules)
