-- Zeros for keys, bits and marks, and an arena without rows, stand for the rules' fresh state; the slice has room for all ids that a table may have.
use Rattle.lang_check.proofs.Passes.{one_pass}
use Rattle.lang_check.proofs.collect.one_pass.Goals as goal

pub returns : goal.returns
returns c = search one_pass
