use borrow.Author.Rules.{rules}
use mathlib.Core.Path.{refl, ap}
use mathlib.Core.Bool.{not}
use Rattle.std.proofs.lemmas.Result.{err_from_is_err_and}
use Rattle.simplify.proofs.Asking.{any_beside}
use Rattle.simplify.proofs.Simplified.{simplify_plain, simplify_tidies, simplify_same, simplify_refused, simplify_changed}
use Rattle.simplify.proofs.intersections.simplify_union_neg_intersection.Goals as goal

pub returns-then-not-any_of_kind : goal.returns-then-not-any_of_kind
returns-then-not-any_of_kind c = search simplify_plain

pub returns-then-not-any_of_kind-2 : goal.returns-then-not-any_of_kind-2
returns-then-not-any_of_kind-2 c = search simplify_tidies

pub returns-in_err-all : goal.returns-in_err-all
returns-in_err-all c =
    let refused = simplify_refused _ c.any_of_kind.ensures (ap not c.if-not-any_of_kind.false) c.any_of_kind-2.ensures (ap not c.if-not-any_of_kind-2.false)
    c.of_kind-negs.ensures (any_beside c.any_from-changed.ensures (λ y b a. search rules)) c.in_err-all.ensures refl in
    let p = err_from_is_err_and c.from_residual.result c.from_residual.ensures.1 in
    rw (p.1, p.2) refused

pub returns-then-not-changed : goal.returns-then-not-changed
returns-then-not-changed c =
    simplify_same _ c.any_of_kind.ensures (ap not c.if-not-any_of_kind.false) c.any_of_kind-2.ensures (ap not c.if-not-any_of_kind-2.false)
    c.of_kind-negs.ensures (any_beside c.any_from-changed.ensures (λ y b a. search rules)) c.in_ok-all.ensures (ap not c.if-not-changed.true)

pub returns : goal.returns
returns c =
    simplify_changed _ c.any_of_kind.ensures (ap not c.if-not-any_of_kind.false) c.any_of_kind-2.ensures (ap not c.if-not-any_of_kind-2.false)
    c.of_kind-negs.ensures (any_beside c.any_from-changed.ensures (λ y b a. search rules)) c.in_ok-all.ensures (ap not c.if-not-changed.false)
    c.of_kind-some.ensures c.remove_redundant_negations-2.ensures
