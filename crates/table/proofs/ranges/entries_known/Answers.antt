use Rattle.table.proofs.Knowing.{entries_done, entries_more, entries_no, entries_start}
use Rattle.table.proofs.ranges.entries_known.Goals as goal

pub loop-i-init : goal.loop-i-init
loop-i-init c = search entries_start

pub loop-i-preserved : goal.loop-i-preserved
loop-i-preserved c = search entries_more

pub returns-then-not-entry_known : goal.returns-then-not-entry_known
returns-then-not-entry_known c = search entries_no

pub returns : goal.returns
returns c = search entries_done
