use Rattle.listing.proofs.Heads.{refused_root_is}
use Rattle.listing.proofs.lines.refused_root.Goals as goal

pub returns : goal.returns
returns c = search refused_root_is
