-- Links to the ids that are left, from p on, are all that is missing.
use Rattle.links.proofs.Linking.{Linking}
use mathlib.Core.Path.{◌≡◌}
use Rattle.links.proofs.Chains.add_each.Given as goal

abbrev pub invariant-loop-i : goal.invariant-loop-i
invariant-loop-i l = Linking l.table l.initial.self.work.now l.initial.self.n l.x l.a l.step l.k l.self.work.now l.self.n l.p l.i × (l.self.work.ghost_name ≡ l.initial.self.work.ghost_name)
