-- Only variables, intersections and frozen entries are left to the last arm, and for those `made` of the contract says 5 too.
use Rattle.lang_check.proofs.MadeOf.{one_primitive, one_tyvar, one_list, one_neg, one_named, one_refused}
use Rattle.lang_check.proofs.made.made_of_one.Goals as goal

pub returns-in-Primitive : goal.returns-in-Primitive
returns-in-Primitive c = search one_primitive

pub returns-in-TyVar : goal.returns-in-TyVar
returns-in-TyVar c = search one_tyvar

pub returns-in-List : goal.returns-in-List
returns-in-List c = search one_list

pub returns-in-Neg : goal.returns-in-Neg
returns-in-Neg c = search one_neg

pub returns-in-Named : goal.returns-in-Named
returns-in-Named c = search one_named

pub returns-in_default : goal.returns-in_default
returns-in_default c = one_refused c.in_default.not-Primitive c.in_default.not-TyVar c.in_default.not-List c.in_default.not-Neg c.in_default.not-Named
