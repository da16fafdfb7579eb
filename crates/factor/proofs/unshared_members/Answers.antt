use borrow.Author.Rules.{rules}
use Rattle.factor.specs.Factors.{not_among}
use Rattle.factor.proofs.Factors.{among_if}
use Rattle.factor.proofs.unshared_members.Goals as goal

pub returns : goal.returns
returns c =
    record { is = λ {q} {ns} {xs} h m lt. c.sift.ensures.is (not_among ns xs) (c.members_of.ensures.is h lt) (λ x b le a. search (rules, among_if)) }
