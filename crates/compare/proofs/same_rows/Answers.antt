-- The closure gives whether the i-th rows are the same.
use mathlib.Core.Path.{refl}
use Rattle.std.proofs.Common.{arith, rules}
use Rattle.std.proofs.lemmas.Iterator.{YieldsList-from_range}
use Rattle.std.proofs.lemmas.Iterator.Search.{all_from_yields_List}
use Rattle.cells.specs.Part.{eq_list}
use Rattle.compare.specs.Compares.{words_from}
use Rattle.compare.proofs.Comparing.{nth, nth_is, rows_same}
use Rattle.compare.proofs.same_rows.Goals as goal

pub returns : goal.returns
returns c =
    rows_same
    (all_from_yields_List (λ k. eq_list (words_from c.args.old.now (nth c.args.p k)) (words_from c.args.table.now (nth c.args.p k))) _ _ c.all.result
    c.all.ensures.ran (YieldsList-from_range 0 c.args.n c.args.n refl (omega arith)) (λ x b q k. search (rules, nth_is)))
