use Rattle.text.proofs.Keywords.{look_start, look_found, look_more, look_none, slot_at}
use borrow.Author.Rules.{rules}
use Rattle.text.proofs.kinds.kind_of.Goals as goal

pub loop-i-init : goal.loop-i-init
loop-i-init c = search look_start

pub keyword-requires : goal.keyword-requires
keyword-requires c = record { from_le_to = search rules; slot = search slot_at }

pub returns-then-keyword : goal.returns-then-keyword
returns-then-keyword c = search look_found

pub loop-i-preserved : goal.loop-i-preserved
loop-i-preserved c = search look_more

pub returns : goal.returns
returns c = search look_none
