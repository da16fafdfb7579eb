-- `storage::held::begin_list` meets its contract: the polarity and the two marks tell whether it is no bound, the lowers, or the atoms among the uppers. Assumes nothing.
use borrow.Author.Rules.{rules}
use Rattle.storage.proofs.HeldBounds.{begin_upper, begin_lower}
use Rattle.storage.proofs.held.begin_list.Goals as goal

pub returns-in-Positive : goal.returns-in-Positive
returns-in-Positive c = begin_upper c.in-Positive.is c.row.ensures c.add-v.ensures c.uppers-u.ensures c.hold_bounds.ensures (λ b x p. search rules)

pub returns-else-get-ne0-2 : goal.returns-else-get-ne0-2
returns-else-get-ne0-2 c =
    begin_lower c.in-Negative.is c.place.ensures c.get.ensures c.if-get-ne0.false c.rep.ensures c.place-else-get-ne0.ensures c.get-else-get-ne0.ensures
    c.if-get-ne0-2.false c.row.ensures c.add-v.ensures c.hold_bounds-in-Negative.ensures (λ b x p. search rules)
