-- `storage::equiv::union_pairs` meets its contract: after i pairs the classes are those of the first i, and the pairs, which stand after the parents, are as they were. Assumes nothing.
use Rattle.storage.proofs.Forests.{Uniting}
use mathlib.Core.Path.{◌≡◌}
use lib.ListN.{length}
use Rattle.storage.proofs.equiv.union_pairs.Given as goal

abbrev pub invariant-loop-i : goal.invariant-loop-i
invariant-loop-i l = Uniting l.initial.table l.count l.first l.pairs l.table l.i × (length l.table ≡ length l.initial.table)
