-- Of the first i keys those that stay stand from b on; no key from i on is written over, since no more stay than were read.
use Rattle.merge.proofs.Sieving.{Sieving}
use Rattle.merge.proofs.sieve_keys.Given as goal

abbrev pub invariant-loop-i : goal.invariant-loop-i
invariant-loop-i l = Sieving l.words l.initial.held l.b l.n l.a l.held l.s l.k l.i
