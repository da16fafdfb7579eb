use mathlib.Core.Path.{ap}
use Rattle.lang_ty.specs.declared.arena.OutputTy.TheVariants as kinds
use Rattle.lang_ty.specs.Nodes.{code}
use Rattle.lang_ty.proofs.Codes.{other}
use Rattle.listing.proofs.NodeLines.{counts_one, counts_none}
use Rattle.listing.proofs.lines.variables_after.Goals as goal

pub returns-in-TyVar : goal.returns-in-TyVar
returns-in-TyVar c = search (counts_one, ap code c.in-TyVar.is)

pub returns-in_default : goal.returns-in_default
returns-in_default c = search (counts_none, other kinds.TyVar c.in_default.not-TyVar)
