-- `table::judging::judge` meets its contract. Assumes nothing.
use mathlib.Core.Path.{sym, ◌∙◌}
use Rattle.table.proofs.Entries.{is_frozen}
use Rattle.table.proofs.Verdicts.{judge_1, judge_2, judge_4, judge_5, judge_taken}
use Rattle.table.proofs.judging.judge.Goals as goal

pub returns-then-not-in_order : goal.returns-then-not-in_order
returns-then-not-in_order c = search judge_1

pub returns-then-over : goal.returns-then-over
returns-then-over c = search judge_2

pub returns-then-not-ascends : goal.returns-then-not-ascends
returns-then-not-ascends c = search judge_4

pub returns-then-eq : goal.returns-then-eq
returns-then-eq c =
    let frozen = sym (is_frozen c.kind_of.result c.kind_of.ensures) ∙ sym c.eq.ensures ∙ c.if-eq.true in
    search judge_5

pub returns : goal.returns
returns c =
    let thawed = sym (is_frozen c.kind_of.result c.kind_of.ensures) ∙ sym c.eq.ensures ∙ c.if-eq.false in
    search judge_taken
