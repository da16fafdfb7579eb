use borrow.Author.Rules.{rules}
use Rattle.simplify.proofs.Asking.{sifts, denies}
use Rattle.simplify.proofs.Simplified.{spares_is}
use Rattle.simplify.proofs.beside.spared.Goals as goal

pub returns : goal.returns
returns c = spares_is c.members_of.ensures (sifts c.sift.ensures (λ y b a. search (rules, denies)))
