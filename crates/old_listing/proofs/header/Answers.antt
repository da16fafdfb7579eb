use Rattle.old_listing.proofs.Takes.{header_line}
use Rattle.old_listing.proofs.header.Goals as goal

pub returns-else-not-is_numbered : goal.returns-else-not-is_numbered
returns-else-not-is_numbered c = search (header_line, c.in_ok-e-in-Numbered.ensures)
