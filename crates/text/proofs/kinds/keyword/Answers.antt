-- `text::kinds::keyword` meets its contract. Assumes nothing.
use Rattle.text.proofs.Keywords.{word_is}
use Rattle.text.proofs.kinds.keyword.Goals as goal

pub returns : goal.returns
returns c = word_is c.requires.slot c.requires.from_le_to.0 c.requires.from_le_to.1 c.from-n.ensures c.eq.ensures
