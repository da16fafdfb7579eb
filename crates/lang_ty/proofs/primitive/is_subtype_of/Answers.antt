use Rattle.lang_ty.proofs.Shapes.{subtype_no, subtype_yes}
use Rattle.lang_ty.proofs.primitive.is_subtype_of.Goals as goal

pub returns-then-b-eq2 : goal.returns-then-b-eq2
returns-then-b-eq2 c = search subtype_yes

pub returns-else-b-eq2 : goal.returns-else-b-eq2
returns-else-b-eq2 c = search subtype_no
