-- Each search ends where the rules cut, so the three slices are their three parts; a part that is left out is empty in both.
use mathlib.Core.Path.{sym}
use lib.Seq.{length-take-le}
use Rattle.recheck_call.proofs.Showing.{parts_shown}
use borrow.Author.Rules.{rules}
use Rattle.recheck_call.proofs.program.answer_parts.Goals as goal

pub slice_bounds-answer_recheck-end : goal.slice_bounds-answer_recheck-end
slice_bounds-answer_recheck-end c = sym (length-take-le _ _ (search rules))

pub returns : goal.returns
returns c = search parts_shown
