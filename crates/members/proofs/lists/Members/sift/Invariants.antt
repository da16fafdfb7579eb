use Rattle.members.proofs.Sifted.{Sifting}
use Rattle.members.proofs.lists.Members.sift.Given as goal

abbrev pub invariant-loop-i : goal.invariant-loop-i
invariant-loop-i g l = Sifting (goal.F-post g l.keep) l.self.at l.self.count l.out l.k l.i
