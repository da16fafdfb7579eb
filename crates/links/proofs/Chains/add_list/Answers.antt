use Rattle.links.proofs.Linking.{list_is}
use Rattle.links.proofs.Chains.add_list.Goals as goal

pub returns-clause-made : goal.returns-clause-made
returns-clause-made c = search list_is
