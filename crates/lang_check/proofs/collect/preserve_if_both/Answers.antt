use Rattle.lang_check.proofs.Steps.{preserves_both, preserves_not}
use Rattle.lang_check.proofs.collect.preserve_if_both.Goals as goal

pub returns-then-both_at : goal.returns-then-both_at
returns-then-both_at c = search preserves_both

pub returns-else-both_at : goal.returns-else-both_at
returns-else-both_at c = search preserves_not
