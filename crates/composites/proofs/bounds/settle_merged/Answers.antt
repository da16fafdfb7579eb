use mathlib.Core.Path.{refl}
use Rattle.std.proofs.lemmas.Result.{err_from_is_err_and}
use Rattle.composites.proofs.Settled.{settled_node, settled_refused, listed_on, listed_off}
use Rattle.composites.proofs.NormalBounds.{merged_contradicts, merged_settles}
use Rattle.composites.proofs.bounds.settle_merged.Goals as goal

pub returns-then-has_type_contradiction : goal.returns-then-has_type_contradiction
returns-then-has_type_contradiction c =
    merged_contradicts refl c.remove_redundant_negations-m.ensures c.has_type_contradiction.ensures c.if-has_type_contradiction.true c.in_ok-x.ensures
    (settled_node refl)

pub returns-in_err-x : goal.returns-in_err-x
returns-in_err-x c =
    let p = err_from_is_err_and c.from_residual.result c.from_residual.ensures.1 in
    rw (p.1, p.2) (merged_contradicts refl c.remove_redundant_negations-m.ensures c.has_type_contradiction.ensures c.if-has_type_contradiction.true
    c.in_err-x.ensures (settled_refused refl))

pub returns-in_err-f : goal.returns-in_err-f
returns-in_err-f c =
    let p = err_from_is_err_and c.from_residual-in_err-f.result c.from_residual-in_err-f.ensures.1 in
    rw (p.1, p.2) (merged_settles refl c.remove_redundant_negations-m.ensures c.has_type_contradiction.ensures c.if-has_type_contradiction.false
    c.in_err-f.ensures (listed_off refl))

pub returns : goal.returns
returns c =
    merged_settles refl c.remove_redundant_negations-m.ensures c.has_type_contradiction.ensures c.if-has_type_contradiction.false c.in_ok-f.ensures
    (listed_on refl c.settle.ensures)
