use mathlib.Core.Path.{refl, sym, ◌∙◌}
use Rattle.table.proofs.Lines.{walk_done, walk_empty, walk_fault, walk_more, walk_ready, walk_start, walk_unended, unbudgeted}
use Rattle.table.proofs.judging.lines_of.Goals as goal

pub loop-from-init : goal.loop-from-init
loop-from-init c = search walk_start

pub returns-then-e-n : goal.returns-then-e-n
returns-then-e-n c = search walk_unended

pub line-requires : goal.line-requires
line-requires c = record { ready = search walk_ready; kinds = record { slots = record { are = refl }; are = refl } }

pub returns-in-Err : goal.returns-in-Err
returns-in-Err c = search walk_fault

pub loop-from-preserved : goal.loop-from-preserved
loop-from-preserved c = search walk_more

pub returns-then-eq : goal.returns-then-eq
returns-then-eq c =
    let first = sym (unbudgeted c.loop-from.p.stage) ∙ sym c.eq.ensures ∙ c.if-eq.true in
    search walk_empty

pub returns : goal.returns
returns c =
    let later = sym (unbudgeted c.loop-from.p.stage) ∙ sym c.eq.ensures ∙ c.if-eq.false in
    search walk_done
