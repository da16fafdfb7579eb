use Rattle.listing.proofs.NodeLines.{shows_own, shows_before}
use Rattle.listing.proofs.lines.shown_variable.Goals as goal

pub returns-in-Plain : goal.returns-in-Plain
returns-in-Plain c = search shows_own

pub returns-in-Numbered : goal.returns-in-Numbered
returns-in-Numbered c = search shows_before
