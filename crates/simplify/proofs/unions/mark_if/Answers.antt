use Rattle.simplify.proofs.Marked.{marks_one}
use Rattle.simplify.proofs.unions.mark_if.Goals as goal

pub returns-then-taken : goal.returns-then-taken
returns-then-taken c = search marks_one
