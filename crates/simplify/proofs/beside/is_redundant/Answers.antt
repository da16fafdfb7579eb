-- To be disjoint from all members with a known constructor is to overlap none of them.
use borrow.Author.Rules.{rules}
use mathlib.Core.Path.{refl, ap}
use mathlib.Core.Bool.{not}
use Rattle.simplify.proofs.Asking.{any_pair}
use Rattle.simplify.proofs.Redundant.{redundant_not, redundant_neg}
use Rattle.simplify.proofs.beside.is_redundant.Goals as goal

pub returns-then-not-is : goal.returns-then-not-is
returns-then-not-is c = search redundant_not

pub returns : goal.returns
returns c = redundant_neg _ c.is.ensures (ap not c.if-not-is.false) c.word-inner.ensures (any_pair c.any_from.ensures (λ y b a. search rules)) refl
