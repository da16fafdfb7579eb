use Rattle.listing.proofs.Heads.{answers_is}
use Rattle.listing.proofs.lines.answers.Goals as goal

pub returns : goal.returns
returns c = search answers_is
