-- `old_listing::nodes` meets its contract: the lines that are left come to what all of them come to. Assumes nothing.
use Rattle.old_listing.proofs.Takes.{Walking}
use mathlib.Core.Path.{◌≡◌}
use lib.ListN.{length}
use Rattle.old_listing.proofs.nodes.Given as goal

abbrev pub invariant-loop-i : goal.invariant-loop-i
invariant-loop-i l = Walking l.s l.fn.from.at l.fn.from.line l.names l.n l.next.at l.next.line l.i × (length l.words ≡ length l.initial.words)
