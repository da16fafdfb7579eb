use Rattle.lang_check.proofs.Passes.{bits_in, seeking_start, seeking_more, seeking_done}
use borrow.Author.Rules.{rules}
use Rattle.lang_check.proofs.collect.any_both.Goals as goal

pub loop-i-init : goal.loop-i-init
loop-i-init c = search seeking_start

pub offset_bounds-work-i : goal.offset_bounds-work-i
offset_bounds-work-i c = search (rules, bits_in)

pub bounds-work-i : goal.bounds-work-i
bounds-work-i c = search (rules, bits_in)

pub loop-i-preserved : goal.loop-i-preserved
loop-i-preserved c = search seeking_more

pub returns : goal.returns
returns c = search seeking_done
