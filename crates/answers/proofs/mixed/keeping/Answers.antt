use Rattle.answers.proofs.Mixing.{keeps_ungiven, keeps_slice, keeps_none}
use Rattle.answers.proofs.mixed.keeping.Goals as goal

pub returns-in_err-old : goal.returns-in_err-old
returns-in_err-old c = keeps_ungiven c.in_err-old.was c.from_residual.ensures

pub returns-then-is_kept : goal.returns-then-is_kept
returns-then-is_kept c = keeps_slice c.in_ok-old.was c.is_kept.ensures c.if-is_kept.true

pub returns-else-is_kept : goal.returns-else-is_kept
returns-else-is_kept c = keeps_none c.in_ok-old.was c.is_kept.ensures c.if-is_kept.false
