use mathlib.Core.Path.{ap, ◌∙◌}
use Rattle.cells.specs.Part.{cell}
use Rattle.listing.proofs.walk.node.Goals as goal

pub returns : goal.returns
returns c = c.get.ensures ∙ ap (cell c.args.work.now) c.place.ensures
