-- `text::fields_of` meets its contract: the words written, and the fields left, make the whole row. Assumes nothing.
use Rattle.text.proofs.Shaping.{Shaping}
use Rattle.text.proofs.fields_of.Given as goal

abbrev pub invariant-loop-k : goal.invariant-loop-k
invariant-loop-k l = Shaping l.s l.from l.to l.kinds l.kind l.n l.top l.initial.words l.words l.i l.t l.k
