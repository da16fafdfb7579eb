use Rattle.cells.proofs.Clearing.{filled_clears}
use Rattle.cells.proofs.clear.Goals as goal

pub returns : goal.returns
returns c = filled_clears c.place.ensures c.min-e.ensures c.min-a.ensures (c.fill.ensures.after (λ y h. h))
