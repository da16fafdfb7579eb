-- The first k bytes of the keyword are written.
use Prim.Native.Nat.{◌+◌}
use Rattle.cells.specs.Part.{part}
use Rattle.listing.specs.Writes.{Writes, Wrote}
use Rattle.listing.proofs.write.Writer.keyword.Given as goal

abbrev pub invariant-loop-k : goal.invariant-loop-k
invariant-loop-k l = Writes (Wrote (part l.kinds (l.a + 1) l.k)) l.initial.self l.self
