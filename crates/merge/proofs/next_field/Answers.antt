-- Where one list is at its end the other's field comes next; otherwise the smaller key does, or both where the keys are equal.
use Rattle.std.proofs.Common.{Less, Equal, Greater}
use Rattle.std.proofs.lemmas.Cmp.{ranked}
use Rattle.merge.proofs.MergeFields.{next_rest, next_last, next_new, next_old, next_both}
use Rattle.merge.proofs.next_field.Goals as goal

pub returns-then-new : goal.returns-then-new
returns-then-new c = search next_rest

pub returns-then-old : goal.returns-then-old
returns-then-old c = search next_last

pub returns-in-Less : goal.returns-in-Less
returns-in-Less c =
    next_old c.if-new.false c.if-old.false c.held_key-x.ensures c.key-y.ensures (ranked c.held_key-x.result c.key-y.result Less c.in-Less.ensures)

pub returns-in-Equal : goal.returns-in-Equal
returns-in-Equal c =
    next_both c.if-new.false c.if-old.false c.held_key-x.ensures c.key-y.ensures (ranked c.held_key-x.result c.key-y.result Equal c.in-Equal.ensures)

pub returns-in-Greater : goal.returns-in-Greater
returns-in-Greater c =
    next_new c.if-new.false c.if-old.false c.held_key-x.ensures c.key-y.ensures (ranked c.held_key-x.result c.key-y.result Greater c.in-Greater.ensures)
