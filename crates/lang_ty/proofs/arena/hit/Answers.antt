-- Equal rows have equal hashes.
use Rattle.lang_ty.proofs.Find.{hit_other}
use Rattle.lang_ty.proofs.arena.hit.Goals as goal

pub returns-else-get-h : goal.returns-else-get-h
returns-else-get-h c = search hit_other
