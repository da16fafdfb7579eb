use Rattle.listing.proofs.Contents.{set_contents_is}
use Rattle.listing.proofs.lines.set_contents.Goals as goal

pub returns : goal.returns
returns c = search set_contents_is
