-- The first i numbers are written, with a tab before the first and a comma before each other.
use Rattle.listing.specs.Writes.{Writes}
use Rattle.listing.proofs.Listings.{NumbersWritten}
use Rattle.listing.proofs.lines.number_list.Given as goal

abbrev pub invariant-loop-i : goal.invariant-loop-i
invariant-loop-i g l = Writes (NumbersWritten (goal.F-post g l.number) l.n l.i) l.initial.w l.w
