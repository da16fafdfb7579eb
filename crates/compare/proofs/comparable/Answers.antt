-- Rows of one kind are the same exactly if what the rules make of them is, so comparing the rows section by section says what the rules say.
use mathlib.Core.Path.{sym, ◌∙◌}
use borrow.Author.Tests.{eqb-true}
use Rattle.compare.proofs.Comparing.{counts_other, budget_other, names_other, pairs_other, marks_other, roots_last}
use Rattle.compare.proofs.comparable.Goals.{then-same_counts, else-same_counts, then-budget, else-budget, then-same_rows, else-same_rows}
use Rattle.compare.proofs.comparable.Goals.{then-same_rows-2, else-same_rows-2}
use Rattle.compare.proofs.comparable.Goals as goal

pub returns-then-same_rows-3 : goal.returns-then-same_rows-3
returns-then-same_rows-3 c = elim c.if-same_rows-2.branch [
  | then-same_rows-2 y ↦ elim c.if-same_rows.branch [
    | then-same_rows x ↦ elim c.if-budget.branch [
      | then-budget w ↦ elim c.if-same_counts.branch [
        | then-same_counts v ↦
            roots_last c.same_counts.ensures v.if-same_counts.true v.budget.ensures v.budget-then-same_counts.ensures
            (eqb-true _ _ (sym v.value-is ∙ w.if-budget.true)) w.number.ensures w.same_rows.ensures (sym w.value-is ∙ x.if-same_rows.true)
            x.first_pair.ensures x.number-then-same_rows.ensures x.same_rows-then-same_rows.ensures (sym x.value-is ∙ y.if-same_rows-2.true)
            y.first_mark.ensures y.number-then-same_rows-2.ensures y.same_rows-then-same_rows-2.ensures (sym y.value-is ∙ c.if-same_rows-3.true)
            c.first_root.ensures c.number-then-same_rows-3.ensures c.same_rows-then-same_rows-3.ensures
        | else-same_counts v ↦ absurd (cc (v.value-is, v.if-same_counts.false, w.if-budget.true))
      ]
      | else-budget w ↦ absurd (cc (w.value-is, w.if-budget.false, x.if-same_rows.true))
    ]
    | else-same_rows x ↦ absurd (cc (x.value-is, x.if-same_rows.false, y.if-same_rows-2.true))
  ]
  | else-same_rows-2 y ↦ absurd (cc (y.value-is, y.if-same_rows-2.false, c.if-same_rows-3.true))
]

pub returns-else-same_rows-3 : goal.returns-else-same_rows-3
returns-else-same_rows-3 c = rw c.if-same_rows-3.false (elim c.if-same_counts.branch [
  | then-same_counts v ↦ elim c.if-budget.branch [
    | then-budget w ↦
        let budgets = eqb-true _ _ (sym v.value-is ∙ w.if-budget.true) in elim c.if-same_rows.branch [
          | then-same_rows x ↦
              let named = sym w.value-is ∙ x.if-same_rows.true in elim c.if-same_rows-2.branch [
                | then-same_rows-2 y ↦
                    marks_other c.same_counts.ensures v.if-same_counts.true v.budget.ensures v.budget-then-same_counts.ensures budgets w.number.ensures
                    w.same_rows.ensures named x.first_pair.ensures x.number-then-same_rows.ensures x.same_rows-then-same_rows.ensures
                    (sym x.value-is ∙ y.if-same_rows-2.true) y.first_mark.ensures y.number-then-same_rows-2.ensures
                    y.same_rows-then-same_rows-2.ensures (sym y.value-is ∙ c.if-same_rows-3.false)
                | else-same_rows-2 y ↦
                    pairs_other c.same_counts.ensures v.if-same_counts.true v.budget.ensures v.budget-then-same_counts.ensures budgets w.number.ensures
                    w.same_rows.ensures named x.first_pair.ensures x.number-then-same_rows.ensures x.same_rows-then-same_rows.ensures
                    (sym x.value-is ∙ y.if-same_rows-2.false)
              ]
          | else-same_rows x ↦
              names_other c.same_counts.ensures v.if-same_counts.true v.budget.ensures v.budget-then-same_counts.ensures budgets w.number.ensures
              w.same_rows.ensures (sym w.value-is ∙ x.if-same_rows.false)
        ]
    | else-budget w ↦
        budget_other c.same_counts.ensures v.if-same_counts.true v.budget.ensures v.budget-then-same_counts.ensures (sym v.value-is ∙ w.if-budget.false)
  ]
  | else-same_counts v ↦ counts_other c.same_counts.ensures v.if-same_counts.false
])
