use Rattle.listing.proofs.Numbering.{walks_is}
use Rattle.listing.proofs.walk.walk.Goals as goal

pub returns : goal.returns
returns c = search walks_is
