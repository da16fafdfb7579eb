use Rattle.lang_ty.proofs.Attrsets.{alike_none, comparing_start, comparing_ends, comparing_more}
use borrow.Author.Rules.{rules}
use Rattle.lang_ty.proofs.attrset.alike_fields.Goals as goal

pub returns-then-words-p : goal.returns-then-words-p
returns-then-words-p c = search alike_none

pub loop-r-init : goal.loop-r-init
loop-r-init c = (search rules, comparing_start)

pub returns-then-words-p-2 : goal.returns-then-words-p-2
returns-then-words-p-2 c = search comparing_ends

pub loop-r-preserved : goal.loop-r-preserved
loop-r-preserved c = (search rules, search comparing_more)

pub returns : goal.returns
returns c = search comparing_ends
