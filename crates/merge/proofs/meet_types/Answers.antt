-- Each way out is a case of the rules' meet_types: the same type twice or an earlier TyVar, or an intersection that is stored.
use Rattle.merge.proofs.MergeFields.{meets_same, meets_var, meets_both}
use Rattle.merge.proofs.meet_types.Goals as goal
use Rattle.merge.proofs.meet_types.Goals.{then-old-new-via-then-old-new, then-old-new-via-else-old-new+then-is}

pub returns-then-old-new : goal.returns-then-old-new
returns-then-old-new c =
    elim c.then-old-new.branch [ then-old-new-via-then-old-new w ↦ search meets_same | then-old-new-via-else-old-new+then-is w ↦ search meets_var ]

pub returns : goal.returns
returns c = search meets_both
