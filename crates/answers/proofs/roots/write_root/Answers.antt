-- The nodes of an answer stand in the arena, so they are few and short enough for every position in their lines to be a number.
use mathlib.Core.Path.{ap, sym, ◌∙◌}
use native.Mathlib.Omega.{arith}
use Rattle.lang_check.specs.RootAnswer.{root_answer, Refused}
use Rattle.answers.proofs.Running.{root_shown, root_refused}
use Rattle.answers.proofs.roots.write_root.Goals as goal

pub returns-in-Ok : goal.returns-in-Ok
returns-in-Ok c = (
  c.root_lines.ensures.0,
  root_shown c.canonicalize.ensures c.polarity.ensures (ap root_answer c.in-Ok.is) c.canonicalize.auto.table c.canonicalize.auto.work
      (λ k. grind arith)
      (omega (arith, c.ranges.id), (omega (arith, c.ranges.sign), (omega arith, (omega arith, tt)))) c.root_lines.ensures.1,
)

pub returns-in-Err : goal.returns-in-Err
returns-in-Err c = (
  c.refused_root.ensures.0,
  root_refused c.canonicalize.ensures c.polarity.ensures (ap root_answer c.in-Err.is ∙ sym (ap Refused c.number.ensures)) c.canonicalize.auto.table
      (omega (arith, c.ranges.id), (omega (arith, c.ranges.sign), (omega arith, tt))) c.refused_root.ensures.1,
)
