-- Kind, count and fields stand one after another from t on, and the dyn follows them.
use lib.ListN.{set}
use mathlib.Core.Path.{ap, ◌∙◌}
use Rattle.merge.proofs.MergeStore.{writes_fields}
use Rattle.merge.proofs.write_fields.Goals as goal

pub returns : goal.returns
returns c = search (writes_fields, c.set.ensures ∙ ap (set c.args.words.now c.args.t) c.number.ensures)
