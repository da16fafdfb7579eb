-- `storage::held::own_bounds` meets its contract: bounds that are no variables are taken first, then the variable itself if it is preserved, and else the bounds of other classes. Assumes nothing.
use borrow.Author.Rules.{rules}
use Rattle.storage.proofs.HeldBounds.{own_concrete, own_variable, own_others}
use Rattle.storage.proofs.held.own_bounds.Goals as goal

pub returns-then-n-ne0 : goal.returns-then-n-ne0
returns-then-n-ne0 c = own_concrete c.own_list-l.ensures c.is_preserved-kept.ensures c.hold_bounds-n.ensures (λ b x p. search rules) c.if-n-ne0.true

pub returns-then-kept : goal.returns-then-kept
returns-then-kept c =
    own_variable c.own_list-l.ensures c.is_preserved-kept.ensures c.hold_bounds-n.ensures (λ b x p. search rules) c.if-n-ne0.false c.if-kept.true

pub returns : goal.returns
returns c =
    own_others c.own_list-l.ensures c.is_preserved-kept.ensures c.hold_bounds-n.ensures (λ b x p. search rules) c.if-n-ne0.false c.if-kept.false
    c.rep-r.ensures c.hold_bounds-n.auto.work c.hold_bounds-count.ensures (λ b x p. search rules)
