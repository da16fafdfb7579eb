-- `storage::sets::store_set` meets its contract: the row is the table's with each id replaced by its answer, which is the row of the rules' set. Assumes nothing.
use lib.ListN.{set}
use mathlib.Core.Path.{ap, ◌∙◌}
use Rattle.storage.proofs.SetNodes.{stores_set}
use Rattle.storage.proofs.sets.store_set.Goals as goal

pub returns : goal.returns
returns c =
    stores_set c.fields-n.ensures c.dyns-d.ensures c.optionals-k.ensures c.add-two.ensures c.add.ensures c.add-2.ensures
    c.add-len.ensures c.top-t.ensures c.add-b.ensures (c.set.ensures ∙ ap (set c.args.arena.now c.top-t.result) c.number.ensures) c.copy.ensures c.put_types.ensures
    c.put_dyn.ensures c.add-3.ensures c.add-4.ensures c.intern.ensures
