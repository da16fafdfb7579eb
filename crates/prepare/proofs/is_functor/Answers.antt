-- A name of nine bytes has a row of ten words; the closure gives whether the i-th bytes are the same.
use mathlib.Core.Path.{refl}
use lib.Dec.{eqb}
use Rattle.std.proofs.Common.{rules, ◌+◌}
use Rattle.std.proofs.lemmas.Iterator.{YieldsList-from_range}
use Rattle.std.proofs.lemmas.Iterator.Search.{all_from_yields_List}
use Rattle.cells.specs.Part.{cell}
use Rattle.prepare.specs.Prepares.{functor_name}
use Rattle.prepare.proofs.Facts.{functor_longer, spelled}
use Rattle.prepare.proofs.is_functor.Goals as goal

pub returns-then-e-add : goal.returns-then-e-add
returns-then-e-add c =
    spelled c.add-from.ensures c.add.ensures c.if-e-add.true
    (all_from_yields_List (λ k. eqb (cell c.args.table.now (c.add-from.result + k)) (cell functor_name k)) _ _ c.all.result c.all.ensures.ran
    (YieldsList-from_range 0 9 9 refl refl) (λ x b q k. search rules))

pub returns-else-e-add : goal.returns-else-e-add
returns-else-e-add c = search functor_longer
