-- `table::rows::places_of` meets its contract. Assumes nothing.
use Rattle.table.proofs.Entries.{places_are}
use Rattle.table.proofs.rows.places_of.Goals as goal

pub returns : goal.returns
returns c = search places_are
