-- No Neg before cell i takes x: whether one from there on does is what is asked.
use Rattle.members.specs.Lists.{Pairs}
use Rattle.members.proofs.Sifted.{Searching}
use Rattle.simplify.specs.Asked.{negated_by}
use Rattle.simplify.proofs.beside.is_negated.Given as goal

abbrev pub invariant-loop-i : goal.invariant-loop-i
invariant-loop-i l = Searching (Pairs negated_by l.arena l.x) l.s 0 l.n l.i
