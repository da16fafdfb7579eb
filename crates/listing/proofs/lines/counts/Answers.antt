use Rattle.listing.proofs.Heads.{counts_is}
use Rattle.listing.proofs.lines.counts.Goals as goal

pub returns : goal.returns
returns c = search counts_is
