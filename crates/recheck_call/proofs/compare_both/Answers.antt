-- Tables that may be compared have as many lines of each kind, so the counts of the new one do for the old one too.
use mathlib.Core.Path.{ap, ◌∙◌}
use mathlib.Core.Bool.{not}
use Rattle.recheck_call.proofs.Calling.{flagged, not_comparable, refused_old, listed_both}
use Rattle.recheck_call.proofs.compare_both.Goals as goal

pub returns-then-not-comparable : goal.returns-then-not-comparable
returns-then-not-comparable c =
    not_comparable c.comparable.ensures (ap not c.if-not-comparable.true)

pub returns-in-Err : goal.returns-in-Err
returns-in-Err c = search refused_old

pub shape_of-old-in-Ok : goal.shape_of-old-in-Ok
shape_of-old-in-Ok c =
    c.flag_redone.auto.old ∙ c.read_old.auto.spans

pub shape_of-table-in-Ok : goal.shape_of-table-in-Ok
shape_of-table-in-Ok c =
    c.deliver.auto.table ∙ c.prepare-g.auto.table

pub shape_of-arena-in-Ok : goal.shape_of-arena-in-Ok
shape_of-arena-in-Ok c =
    c.deliver.auto.arena ∙ c.read_old.auto.words

pub shape_of-work : goal.shape_of-work
shape_of-work c =
    c.deliver.auto.work ∙ c.flag_redone.auto.work

pub returns-in-Ok : goal.returns-in-Ok
returns-in-Ok c =
    listed_both c.comparable.ensures (ap not c.if-not-comparable.false) c.number-names.ensures c.first_root.ensures c.number-roots.ensures c.read_old.ensures c.in-Ok.is
    c.read_old.auto.spans c.read_old.auto.words
    (flagged c.prepare-g.ensures c.prepare-g.auto.table c.flag_redone.ensures c.flag_redone.auto.work c.deliver.ensures)
