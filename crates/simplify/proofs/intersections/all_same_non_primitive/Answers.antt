-- All are of one kind exactly if none after the first is of another kind than the first.
use borrow.Author.Rules.{rules}
use mathlib.Core.Path.{refl}
use Rattle.lang_ty.specs.declared.arena.OutputTy.TheVariants as kinds
use Rattle.lang_ty.proofs.Codes.{other}
use Rattle.simplify.proofs.Asking.{any_asked}
use Rattle.simplify.proofs.Contradiction.{of_other, same_others}
use Rattle.simplify.proofs.intersections.all_same_non_primitive.Goals as goal

pub returns-in_default : goal.returns-in_default
returns-in_default c =
    same_others c.if-m-eq0.false c.at.ensures c.kind.ensures (other kinds.Primitive c.in_default.not-Primitive)
    (any_asked c.any_from.ensures (λ y b a. search (rules, of_other))) refl
