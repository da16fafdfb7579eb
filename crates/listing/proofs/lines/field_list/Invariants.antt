-- The first i fields are written, with a tab before the first and a comma before each other.
use Rattle.listing.proofs.Listings.{FieldsWritten}
use Rattle.listing.specs.Writes.{Writes}
use Rattle.listing.proofs.lines.field_list.Given as goal

abbrev pub invariant-loop-i : goal.invariant-loop-i
invariant-loop-i l = Writes (FieldsWritten l.words l.work l.a l.i) l.initial.w l.w
