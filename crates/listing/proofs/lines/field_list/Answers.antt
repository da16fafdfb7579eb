use Rattle.listing.proofs.Listings.{fields_more, fields_done, fields_none}
use Rattle.listing.proofs.lines.field_list.Goals as goal

pub returns-then-n-eq0 : goal.returns-then-n-eq0
returns-then-n-eq0 c = search fields_none

pub loop-i-preserved : goal.loop-i-preserved
loop-i-preserved c = search fields_more

pub returns : goal.returns
returns c = search fields_done
