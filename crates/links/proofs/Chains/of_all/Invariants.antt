-- The slice holds the links of the first x entries, as many as these have ids, so there is room for them.
use Rattle.links.proofs.Linking.{LinkingAll}
use mathlib.Core.Path.{◌≡◌}
use Rattle.links.proofs.Chains.of_all.Given as goal

abbrev pub invariant-loop-x : goal.invariant-loop-x
invariant-loop-x l = LinkingAll l.table l.initial.chains.work.now l.c l.c.count l.chains.work.now l.chains.n l.x × (l.chains.work.ghost_name ≡ l.initial.chains.work.ghost_name)
