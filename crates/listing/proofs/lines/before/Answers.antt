use Rattle.listing.proofs.Listings.{parted_first, parted_later}
use Rattle.listing.proofs.lines.before.Goals as goal

pub returns-then-i-eq0 : goal.returns-then-i-eq0
returns-then-i-eq0 c = search parted_first

pub returns-else-i-eq0 : goal.returns-else-i-eq0
returns-else-i-eq0 c = search parted_later
