use Rattle.links.proofs.Linking.{two_is}
use Rattle.links.proofs.Chains.add_two.Goals as goal

pub returns-clause-made : goal.returns-clause-made
returns-clause-made c = search two_is
