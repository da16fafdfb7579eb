use mathlib.Core.Path.{refl}
use Rattle.lang_check.proofs.MadeOf.{made_lambda, made_set, made_union, made_one}
use Rattle.lang_check.proofs.made.made.Goals as goal

pub returns-in-Lambda : goal.returns-in-Lambda
returns-in-Lambda c = search made_lambda

pub returns-in-AttrSet : goal.returns-in-AttrSet
returns-in-AttrSet c = search made_set

pub returns-in-Union : goal.returns-in-Union
returns-in-Union c = search made_union

pub returns-in_default : goal.returns-in_default
returns-in_default c = made_one refl c.in_default.not-Lambda c.in_default.not-AttrSet c.in_default.not-Union c.made_of_one.ensures
