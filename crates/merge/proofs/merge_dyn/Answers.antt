-- Each way out is a case of the rules' merge_dyn: no dyn to merge, none so far, the same one, or an intersection, stored or refused.
use mathlib.Core.Path.{refl}
use Rattle.std.proofs.lemmas.Result.{err_from_is_err_and}
use Rattle.merge.proofs.MergeSets.{dyn_none, dyn_first, dyn_same, dyn_both, dyn_refused}
use Rattle.merge.proofs.merge_dyn.Goals as goal

pub returns-then-dyns-eq0 : goal.returns-then-dyns-eq0
returns-then-dyns-eq0 c = search dyn_none

pub returns-in_default : goal.returns-in_default
returns-in_default c = search dyn_first

pub returns-then-old-new : goal.returns-then-old-new
returns-then-old-new c = search dyn_same

pub returns-in_err-x : goal.returns-in_err-x
returns-in_err-x c =
    let p = err_from_is_err_and c.from_residual.result c.from_residual.ensures.1 in
    rw (p.1, p.2) (dyn_refused c.dyns.ensures c.if-dyns-eq0.false c.dyn_type-new.ensures c.in-Some.is c.if-old-new.false c.in_err-x.ensures refl)

pub returns : goal.returns
returns c = dyn_both c.dyns.ensures c.if-dyns-eq0.false c.dyn_type-new.ensures c.in-Some.is c.if-old-new.false c.in_ok-x.ensures refl
