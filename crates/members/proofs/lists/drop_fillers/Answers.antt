use borrow.Author.Rules.{rules}
use Rattle.members.specs.Lists.{stays}
use Rattle.members.proofs.Gathered.{stays_if}
use Rattle.members.proofs.lists.drop_fillers.Goals as goal

pub returns : goal.returns
returns c = record { is = λ {p} pre. record { is = λ {q} {ns} {xs} h t. c.sift.ensures.is (stays p ns) t (λ x b lt a. search (rules, stays_if)) } }
