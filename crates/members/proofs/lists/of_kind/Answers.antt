use borrow.Author.Rules.{rules}
use Rattle.lang_ty.specs.Nodes.{code}
use Rattle.members.specs.Lists.{of_kind}
use Rattle.members.proofs.Gathered.{kind_wanted, kind_unwanted}
use Rattle.members.proofs.lists.of_kind.Goals as goal

pub returns-then-wanted : goal.returns-then-wanted
returns-then-wanted c =
    record { is = λ {q} {ns} {xs} h t. c.sift.ensures.is (of_kind (code c.args.kind) c.args.wanted ns) t (λ x b lt a. search (rules, kind_wanted)) }

pub returns-else-wanted : goal.returns-else-wanted
returns-else-wanted c =
    record { is = λ {q} {ns} {xs} h t. c.sift-else-wanted.ensures.is (of_kind (code c.args.kind) c.args.wanted ns) t (λ x b lt a. search (rules, kind_unwanted)) }
