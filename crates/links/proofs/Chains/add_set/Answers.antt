use Rattle.links.proofs.Linking.{set_is}
use Rattle.links.proofs.Chains.add_set.Goals as goal

pub returns-clause-made : goal.returns-clause-made
returns-clause-made c = search set_is
