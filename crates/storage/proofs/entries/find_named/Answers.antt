use Rattle.storage.proofs.EntryReads.{naming_here, naming_more}
use Rattle.storage.proofs.entries.find_named.Goals as goal

pub returns-then-entry_kind-eq-NAMED : goal.returns-then-entry_kind-eq-NAMED
returns-then-entry_kind-eq-NAMED c = search naming_here

pub loop-i-preserved : goal.loop-i-preserved
loop-i-preserved c = search naming_more
