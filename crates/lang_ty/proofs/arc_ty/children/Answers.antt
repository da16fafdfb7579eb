use Rattle.lang_ty.proofs.Children.{children_set, children_lambda, children_one, children_members}
use Rattle.lang_ty.proofs.arc_ty.children.Goals as goal

pub returns-in-AttrSet : goal.returns-in-AttrSet
returns-in-AttrSet c = search children_set

pub returns-in-Lambda : goal.returns-in-Lambda
returns-in-Lambda c = search children_lambda

pub returns-in-List : goal.returns-in-List
returns-in-List c = search children_one

pub returns-in_default : goal.returns-in_default
returns-in_default c = search children_members
