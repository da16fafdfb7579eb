-- The first bytes of w are written.
use lib.ListN.{take}
use Rattle.listing.specs.Writes.{Writes, Wrote}
use Rattle.listing.proofs.write.Writer.word.Given as goal

abbrev pub invariant-loop-b : goal.invariant-loop-b
invariant-loop-b l = Writes (Wrote (take l.b-index l.w)) l.initial.self l.self
