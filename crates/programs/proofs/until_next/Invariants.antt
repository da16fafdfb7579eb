-- No line that begins before i is `next`: the rules' cut goes on from i, with what was passed as the part so far.
use Rattle.programs.proofs.Cutting.{Seeking}
use Rattle.programs.proofs.until_next.Given as goal

abbrev pub invariant-loop-i : goal.invariant-loop-i
invariant-loop-i l = Seeking l.s l.from l.i
