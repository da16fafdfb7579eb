-- `storage::vars::beside` meets its contract: the variable is stored first, and node x joins it unless that is a TyVar or Bottom. Assumes nothing.
use mathlib.Core.Path.{ap}
use Rattle.lang_ty.specs.Given.{given}
use Rattle.lang_ty.specs.declared.arena.OutputTy.TheVariants as kinds
use Rattle.lang_ty.proofs.Codes.{other}
use Rattle.storage.proofs.Variables.{beside_both}
use Rattle.storage.proofs.vars.beside.Goals as goal

pub returns-in_default : goal.returns-in_default
returns-in_default c =
    search (beside_both, other kinds.TyVar c.in_default.not-TyVar, other kinds.Bottom c.in_default.not-Bottom, ap (λ r. given r c.variable.new.q) c.in_ok-y.was)
