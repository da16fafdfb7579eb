use borrow.Author.Rules.{rules}
use mathlib.Core.Path.{ap}
use mathlib.Core.Bool.{not}
use Rattle.simplify.proofs.Asking.{any_asked, sifts, denies}
use Rattle.simplify.proofs.Redundant.{removes_none, removes_some}
use Rattle.simplify.proofs.intersections.remove_redundant_negations.Goals as goal

pub returns-then-not-any_from : goal.returns-then-not-any_from
returns-then-not-any_from c = removes_none _ (any_asked c.any_from.ensures (λ y b a. search rules)) (ap not c.if-not-any_from.true)

pub returns : goal.returns
returns c =
    removes_some _ (any_asked c.any_from.ensures (λ y b a. search rules)) (ap not c.if-not-any_from.false)
    (sifts c.sift.ensures (λ y b a. search (rules, denies)))
