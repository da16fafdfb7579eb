-- `old_listing::roots_from` meets its contract: the texts of the roots before, and the roots that are left, come to what all of them come to. Assumes nothing.
use Rattle.old_listing.proofs.Takes.{Rooting}
use mathlib.Core.Path.{◌≡◌}
use lib.ListN.{length}
use Rattle.old_listing.proofs.roots_from.Given as goal

abbrev pub invariant-loop-i : goal.invariant-loop-i
invariant-loop-i l = Rooting l.s l.fn.from.at l.fn.from.line l.names l.table l.first l.roots l.initial.spans l.spans l.next.at l.next.line l.i × (length l.words ≡ length l.initial.words)
