-- What the sets from i on leave of the keys that are left is what all sets leave of all keys.
use Rattle.merge.proofs.Sieving.{Leaving}
use Rattle.merge.proofs.sieve_all.Given as goal

abbrev pub invariant-loop-i : goal.invariant-loop-i
invariant-loop-i l = Leaving l.arena l.initial.held l.b l.n l.sets.at l.sets.count l.held l.k l.i
