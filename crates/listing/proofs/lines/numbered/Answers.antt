use Rattle.listing.proofs.Heads.{numbered_none, numbered_line_lem}
use Rattle.listing.proofs.lines.numbered.Goals as goal

pub returns-in-Plain : goal.returns-in-Plain
returns-in-Plain c = search numbered_none

pub returns-in-Numbered : goal.returns-in-Numbered
returns-in-Numbered c = search numbered_line_lem
