use Rattle.std.proofs.Common.{rules, tests, arith, refl, ap}
use mathlib.Core.Bool.{not}
use Rattle.std.proofs.lemmas.Iterator.{cases_from_any, YieldsList-from_range}
use Rattle.simplify.proofs.OwnKeys.{Once, once_at, own_any}
use Rattle.simplify.proofs.own_keys.has_own_key.Goals as goal

pub returns-then-optionals-eq0 : goal.returns-then-optionals-eq0
returns-then-optionals-eq0 c =
    own_any _ c.is.ensures (ap not c.if-not-is.false) c.set_place-a.ensures c.optionals.ensures c.if-optionals-eq0.true c.fields-n.ensures
    (cases_from_any _ _ _ (Once c.args.arena.now c.args.counts.now c.set_place-a.result) (λ i. Unit {0}) c.any.ensures.ran (YieldsList-from_range 0 c.fields-n.result c.fields-n.result refl (omega arith))
    (λ i q k. search (rules, tests, once_at)) (λ i q k. search (rules, tests)))
