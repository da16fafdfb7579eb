use Rattle.links.proofs.Linking.{all_start, all_more, all_done}
use borrow.Author.Rules.{rules}
use Rattle.links.proofs.Chains.of_all.Goals as goal

pub loop-x-init : goal.loop-x-init
loop-x-init c = (search all_start, search rules)

pub loop-x-preserved : goal.loop-x-preserved
loop-x-preserved c = (search all_more, search rules)

pub returns-clause-made : goal.returns-clause-made
returns-clause-made c = search all_done
