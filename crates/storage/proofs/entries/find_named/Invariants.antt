-- `storage::entries::find_named` meets its contract: the bounds that are left have the same first Named as all of them. Assumes nothing.
use Rattle.storage.proofs.EntryReads.{Naming}
use Rattle.storage.proofs.entries.find_named.Given as goal

abbrev pub invariant-loop-i : goal.invariant-loop-i
invariant-loop-i l = Naming l.table l.c l.l l.n l.i
