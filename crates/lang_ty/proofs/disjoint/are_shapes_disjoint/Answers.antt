use Rattle.lang_ty.proofs.Shapes.{disjoint_first, disjoint_second, disjoint_same, disjoint_set_lambda, disjoint_set, disjoint_others, disjoint_lambda, disjoint_lambda_set}
use Rattle.lang_ty.proofs.disjoint.are_shapes_disjoint.Goals.{then-not-is_constructor-via-then-not-is_constructor, then-not-is_constructor-via-else-not-is_constructor+then-not-is_constructor-2}
use Rattle.lang_ty.proofs.disjoint.are_shapes_disjoint.Goals as goal

pub returns-then-not-is_constructor : goal.returns-then-not-is_constructor
returns-then-not-is_constructor c = elim c.then-not-is_constructor.branch [ then-not-is_constructor-via-then-not-is_constructor w ↦ search disjoint_first | then-not-is_constructor-via-else-not-is_constructor+then-not-is_constructor-2 w ↦ search disjoint_second ]

pub returns-then-number : goal.returns-then-number
returns-then-number c = search disjoint_same

pub returns-in-Lambda-k : goal.returns-in-Lambda-k
returns-in-Lambda-k c = search disjoint_set_lambda

pub returns-in_default-k : goal.returns-in_default-k
returns-in_default-k c = search disjoint_set

pub returns-in-AttrSet-k : goal.returns-in-AttrSet-k
returns-in-AttrSet-k c = search disjoint_lambda_set

pub returns-in_default-k-2 : goal.returns-in_default-k-2
returns-in_default-k-2 c = search disjoint_lambda

pub returns-in_default : goal.returns-in_default
returns-in_default c = search disjoint_others
