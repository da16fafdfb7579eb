use borrow.Author.Rules.{rules}
use Rattle.simplify.proofs.Cancelled.{unpaired_same, unpaired_one, unpaired_all}
use Rattle.simplify.proofs.unions.remove_tautological_pairs.Goals as goal

pub returns-then-not-any_of_kind : goal.returns-then-not-any_of_kind
returns-then-not-any_of_kind c = search unpaired_same

pub returns : goal.returns
returns c = unpaired_all c.of_kind-negs.ensures c.sift.ensures (λ y b a. search (rules, unpaired_one))
