use Rattle.links.proofs.Linking.{bounds_is}
use Rattle.links.proofs.Chains.add_bounds.Goals as goal

pub returns-clause-made : goal.returns-clause-made
returns-clause-made c = search bounds_is
