use Rattle.listing.proofs.Heads.{refused_call_is}
use Rattle.listing.proofs.lines.refused_call.Goals as goal

pub returns : goal.returns
returns c = search refused_call_is
