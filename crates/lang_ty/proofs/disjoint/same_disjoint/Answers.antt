use Rattle.lang_ty.proofs.Shapes.{same_primitive, same_first, same_second, same_plain}
use Rattle.lang_ty.proofs.disjoint.same_disjoint.Goals as goal

pub returns-in-Primitive : goal.returns-in-Primitive
returns-in-Primitive c = search same_primitive

pub returns-then-lacks : goal.returns-then-lacks
returns-then-lacks c = search same_first

pub returns-else-lacks : goal.returns-else-lacks
returns-else-lacks c = search same_second

pub returns-in_default : goal.returns-in_default
returns-in_default c = search same_plain
