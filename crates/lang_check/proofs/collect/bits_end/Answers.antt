use Rattle.lang_check.proofs.Passes.{bits_end_few, bits_end_all}
use Rattle.lang_check.proofs.collect.bits_end.Goals as goal

pub returns-then-e-work : goal.returns-then-e-work
returns-then-e-work c = search bits_end_few

pub returns : goal.returns
returns c = search bits_end_all
