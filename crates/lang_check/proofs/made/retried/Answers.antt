use mathlib.Core.Path.{ap}
use Rattle.std.specs.Prelude.{Ok}
use Rattle.composites.specs.Tried.{tried}
use Rattle.composites.specs.declared.binary.Outcome.{Outcome}
use Rattle.lang_check.proofs.MadeOf.{retried_node, retried_bottom}
use Rattle.lang_check.proofs.made.retried.Goals as goal

pub returns-in-Node : goal.returns-in-Node
returns-in-Node c = retried_node (ap (λ (v : Outcome). tried (Ok v) c.args.q.now) c.in-Node.is)

pub returns-in-Contradiction : goal.returns-in-Contradiction
returns-in-Contradiction c = retried_bottom (ap (λ (v : Outcome). tried (Ok v) c.args.q.now) c.in-Contradiction.is) c.store_leaf.ensures
