use mathlib.Core.Path.{ap}
use Rattle.lang_ty.specs.declared.arena.OutputTy.TheVariants as kinds
use Rattle.lang_ty.specs.Nodes.{code}
use Rattle.lang_ty.proofs.Codes.{other}
use Rattle.negation.proofs.Turning.{negation_wraps, negation_turns}
use Rattle.negation.proofs.store_negation.Goals as goal

pub returns-in-Neg : goal.returns-in-Neg
returns-in-Neg c = search (negation_wraps, ap code c.in-Neg.is)

pub returns-in_default : goal.returns-in_default
returns-in_default c = search (negation_turns, other kinds.Neg c.in_default.not-Neg)
