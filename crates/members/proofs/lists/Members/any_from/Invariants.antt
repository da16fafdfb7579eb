use Rattle.members.proofs.Sifted.{Searching}
use Rattle.members.proofs.lists.Members.any_from.Given as goal

abbrev pub invariant-loop-i : goal.invariant-loop-i
invariant-loop-i g l = Searching (goal.F-post g l.test) l.self.at l.from l.self.count l.i
