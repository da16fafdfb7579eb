-- Each way out is a case of which field comes next; where both do, their types are met first.
use mathlib.Core.Path.{refl}
use Rattle.std.proofs.lemmas.Result.{err_from_is_err_and}
use Rattle.merge.proofs.MergeFields.{merges_old, merges_new, merges_both, merges_refused}
use Rattle.merge.proofs.merge_field.Goals as goal

pub returns-in-Old : goal.returns-in-Old
returns-in-Old c = search merges_old

pub returns-in-New : goal.returns-in-New
returns-in-New c = search merges_new

pub returns-in_err-z-in-Both : goal.returns-in_err-z-in-Both
returns-in_err-z-in-Both c =
    let p = err_from_is_err_and c.from_residual.result c.from_residual.ensures.1 in
    rw (p.1, p.2) (merges_refused c.in-Both.is c.held_type-x.ensures c.field_type-y.ensures c.in_err-z-in-Both.ensures refl)

pub returns-in_ok-z-in-Both : goal.returns-in_ok-z-in-Both
returns-in_ok-z-in-Both c =
    merges_both c.in-Both.is c.held_type-x.ensures c.field_type-y.ensures c.in_ok-z-in-Both.ensures refl c.held_key-in-Both.ensures c.put_field-in-Both.ensures
