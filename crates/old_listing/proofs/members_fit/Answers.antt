use Rattle.old_listing.proofs.Forms.{members_no, members_yes}
use Rattle.old_listing.proofs.members_fit.Goals as goal

pub returns-then-below : goal.returns-then-below
returns-then-below c = search members_yes

pub returns-else-below : goal.returns-else-below
returns-else-below c = search members_no
