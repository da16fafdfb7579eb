use borrow.Author.Rules.{rules}
use Rattle.text.proofs.Leaves.{seek_start, seek_more, seek_found, seek_none}
use Rattle.text.proofs.seek.Goals as goal

pub loop-i-init : goal.loop-i-init
loop-i-init c = search (rules, seek_start)

pub returns-then-s-i : goal.returns-then-s-i
returns-then-s-i c = search (rules, seek_found)

pub loop-i-preserved : goal.loop-i-preserved
loop-i-preserved c = search (rules, seek_more)

pub returns : goal.returns
returns c = search (rules, seek_none)
