-- What the closure says of a set is its open flag, and all sets are asked.
use mathlib.Core.Bool.{true, false}
use borrow.Author.Rules.{rules}
use borrow.Author.Tests.{tests}
use Rattle.std.proofs.lemmas.Iterator.{cases_from_all, YieldsList-from_slice, YieldsList-from_take}
use Rattle.merge.proofs.MergeStore.{Told, told_by}
use Rattle.merge.proofs.open_if_all.Goals as goal

pub returns : goal.returns
returns c =
    told_by c.all.result (search rules)
    (cases_from_all _ _ _ (λ x. Told c.args.arena.now x true) (λ x. Told c.args.arena.now x false) c.all.ensures.ran
    (YieldsList-from_take c.args.sets.now.count (YieldsList-from_slice c.args.sets.now.at cc) cc)
    (λ x q k. (search (rules, tests), search (rules, tests)))
    (λ x q k. search (rules, tests)))
    c.from.ensures
