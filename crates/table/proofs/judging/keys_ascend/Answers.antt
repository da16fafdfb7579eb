-- `table::judging::keys_ascend` meets its contract. Assumes nothing.
use mathlib.Core.Path.{sym, ◌∙◌}
use Rattle.table.proofs.Entries.{is_set, no_set_of, set_of, keys_no, keys_none, keys_yes}
use Rattle.table.proofs.judging.keys_ascend.Goals as goal

pub returns-then-ne : goal.returns-then-ne
returns-then-ne c = keys_none c.at.ensures (no_set_of (is_set c.kind_of.result c.kind_of.ensures) (sym c.ne.ensures ∙ c.if-ne.true))

pub returns-then-ascend : goal.returns-then-ascend
returns-then-ascend c =
    let e = set_of (is_set c.kind_of.result c.kind_of.ensures) (sym c.ne.ensures ∙ c.if-ne.false) in
    search keys_yes

pub returns-else-ascend : goal.returns-else-ascend
returns-else-ascend c =
    let e = set_of (is_set c.kind_of.result c.kind_of.ensures) (sym c.ne.ensures ∙ c.if-ne.false) in
    search keys_no
