-- The first i words are written, with a tab between any two.
use Rattle.listing.specs.Writes.{Writes}
use Rattle.answers.proofs.Mixing.{Worded}
use Rattle.answers.proofs.mixed.write_words.Given as goal

abbrev pub invariant-loop-i : goal.invariant-loop-i
invariant-loop-i l = Writes (Worded l.old l.i) l.initial.w l.w
