-- The words after the first begin one cell later; where that sum does not fit, the row has no more words and both parts are empty.
use Rattle.compare.proofs.Comparing.{words_same}
use native.Mathlib.Omega.{arith}
use Rattle.compare.proofs.same_words.Goals as goal

pub returns : goal.returns
returns c =
    words_same c.at.ensures c.add-a.ensures c.place.ensures c.get.ensures (omega arith)
    c.at-2.ensures c.add-b.ensures c.place-2.ensures c.get-2.ensures (omega arith) c.same_spans.ensures
