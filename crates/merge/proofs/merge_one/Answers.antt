-- The dyn is merged first, as in the rules; then the fields go to the area that is apart from theirs, and x is still the set that it was.
use mathlib.Core.Path.{refl}
use Rattle.std.proofs.lemmas.Result.{err_from_is_err_and}
use Rattle.merge.proofs.MergeSets.{one_refused, one_merged}
use Rattle.merge.proofs.merge_one.Goals as goal

pub returns-in_err-d : goal.returns-in_err-d
returns-in_err-d c =
    let p = err_from_is_err_and c.from_residual.result c.from_residual.ensures.1 in
    rw (p.1, p.2) (one_refused c.set_place-s.ensures c.in_err-d.ensures refl)

pub returns : goal.returns
returns c = one_merged c.set_place-s.ensures c.in_ok-d.ensures refl c.other_area-b.ensures c.merge_fields.ensures
