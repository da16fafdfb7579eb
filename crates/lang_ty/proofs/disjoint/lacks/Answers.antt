use Rattle.lang_ty.proofs.Shapes.{lacks_closed, lacks_open}
use Rattle.lang_ty.proofs.disjoint.lacks.Goals as goal

pub returns-then-open-eq0 : goal.returns-then-open-eq0
returns-then-open-eq0 c = search lacks_closed

pub returns-else-open-eq0 : goal.returns-else-open-eq0
returns-else-open-eq0 c = search lacks_open
