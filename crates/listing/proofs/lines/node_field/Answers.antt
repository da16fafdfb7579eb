use Rattle.listing.proofs.Heads.{field_as}
use Rattle.listing.proofs.lines.node_field.Goals as goal

pub returns : goal.returns
returns c = search field_as
