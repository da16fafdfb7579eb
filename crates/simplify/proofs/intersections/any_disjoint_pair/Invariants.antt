-- Two of all members are disjoint exactly if two of those from i on are.
use Rattle.simplify.proofs.Contradiction.{Pairing}
use Rattle.simplify.proofs.intersections.any_disjoint_pair.Given as goal

abbrev pub invariant-loop-i : goal.invariant-loop-i
invariant-loop-i l = Pairing l.functor l.arena l.m l.i
