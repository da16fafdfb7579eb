-- Between from and i no sep stands: what was passed is the first piece so far.
use Rattle.text.proofs.Leaves.{Seeking}
use Rattle.text.proofs.seek.Given as goal

abbrev pub invariant-loop-i : goal.invariant-loop-i
invariant-loop-i l = Seeking l.s l.from l.to l.sep l.i
