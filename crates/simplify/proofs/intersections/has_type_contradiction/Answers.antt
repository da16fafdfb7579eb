use borrow.Author.Rules.{rules}
use Rattle.simplify.proofs.Asking.{sifts_asked}
use Rattle.simplify.proofs.Contradiction.{contradicts_taken, contradicts_not, contradicts_pair}
use Rattle.simplify.proofs.intersections.has_type_contradiction.Goals as goal

pub returns-then-any_subsumed : goal.returns-then-any_subsumed
returns-then-any_subsumed c = search contradicts_taken

pub returns-then-not-all_same_non_primitive : goal.returns-then-not-all_same_non_primitive
returns-then-not-all_same_non_primitive c =
    contradicts_pair _ c.any_subsumed.ensures c.if-any_subsumed.false (sifts_asked c.sift-p.ensures (λ y b a. search rules)) c.all_same_non_primitive.ensures
    c.if-not-all_same_non_primitive.true c.any_disjoint_pair.ensures

pub returns-else-not-all_same_non_primitive : goal.returns-else-not-all_same_non_primitive
returns-else-not-all_same_non_primitive c =
    contradicts_not _ c.any_subsumed.ensures c.if-any_subsumed.false (sifts_asked c.sift-p.ensures (λ y b a. search rules)) c.all_same_non_primitive.ensures
    c.if-not-all_same_non_primitive.false
