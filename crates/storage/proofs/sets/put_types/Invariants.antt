-- `storage::sets::put_types` meets its contract: after i fields these have their answers in place of their ids, and no other word has changed. Assumes nothing.
use Rattle.storage.proofs.SetNodes.{Putting}
use Rattle.storage.proofs.sets.put_types.Given as goal

abbrev pub invariant-loop-i : goal.invariant-loop-i
invariant-loop-i l = Putting l.initial.words l.a l.n l.held l.h l.words l.i
