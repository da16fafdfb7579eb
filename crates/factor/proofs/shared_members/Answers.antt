use borrow.Author.Rules.{rules}
use Rattle.factor.specs.Factors.{shared_by}
use Rattle.factor.proofs.Factors.{shared_if}
use Rattle.factor.proofs.shared_members.Goals as goal

pub returns : goal.returns
returns c =
    record { is = λ {q} {ns} {xs} h m lt. c.sift.ensures.is (shared_by ns xs) (c.members_of.ensures.is h lt) (λ x b le a. search (rules, shared_if)) }
