use Rattle.links.proofs.Linking.{linking_start, linking_more, linking_done}
use borrow.Author.Rules.{rules}
use Rattle.links.proofs.Chains.add_each.Goals as goal

pub loop-i-init : goal.loop-i-init
loop-i-init c = (linking_start, search rules)

pub loop-i-preserved : goal.loop-i-preserved
loop-i-preserved c = (search linking_more, search rules)

pub returns-clause-made : goal.returns-clause-made
returns-clause-made c = search linking_done
