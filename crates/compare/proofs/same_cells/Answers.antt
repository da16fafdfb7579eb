-- The closure gives whether the i-th cells are the same.
use mathlib.Core.Path.{refl}
use lib.Dec.{eqb}
use Rattle.std.proofs.Common.{arith, rules, ◌+◌}
use Rattle.std.proofs.lemmas.Iterator.{YieldsList-from_range}
use Rattle.std.proofs.lemmas.Iterator.Search.{all_from_yields_List}
use Rattle.cells.specs.Part.{cell}
use Rattle.compare.proofs.Comparing.{cells_same}
use Rattle.compare.proofs.same_cells.Goals as goal

pub returns : goal.returns
returns c =
    cells_same
    (all_from_yields_List (λ k. eqb (cell c.args.s.now (c.args.a + k)) (cell c.args.w.now (c.args.b + k))) _ _ c.all.result c.all.ensures.ran
    (YieldsList-from_range 0 c.args.n c.args.n refl (omega arith)) (λ x b q k. search rules))
