use Rattle.old_listing.proofs.Takes.{numbered_same}
use Rattle.old_listing.proofs.is_numbered.Goals as goal

pub returns : goal.returns
returns c = search numbered_same
