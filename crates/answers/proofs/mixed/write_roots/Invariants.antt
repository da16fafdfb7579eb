-- The lines of the first i roots are written; a run leaves the table as it was and the slices as long, and the next one needs no more than that.
use mathlib.Core.Path.{◌≡◌}
use lib.ListN.{length}
use Rattle.listing.specs.Writes.{Writes}
use Rattle.answers.specs.Mixes.{slice_of, is_given}
use Rattle.answers.proofs.Mixing.{Listing}
use Rattle.answers.proofs.mixed.write_roots.Given as goal

abbrev pub invariant-loop-i : goal.invariant-loop-i
invariant-loop-i l =
    (length l.table ≡ length l.initial.table)
    × Writes (Listing l.listing (slice_of l.old) (is_given l.old) l.form l.g l.initial.table l.initial.arena l.initial.work l.table l.arena l.work l.i) l.initial.w l.w
