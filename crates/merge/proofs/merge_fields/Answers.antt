use mathlib.Core.Path.{refl}
use mathlib.Core.Logic.{inl, inr}
use Rattle.std.proofs.lemmas.Result.{err_from_is_err_and}
use Rattle.merge.proofs.MergeFields.{sweeping_start, sweeping_fits, sweeping_more, sweeping_refused, sweeping_done}
use Rattle.merge.proofs.merge_fields.Goals as goal

pub loop-k-init : goal.loop-k-init
loop-k-init c = search sweeping_start

pub overflow_add-k : goal.overflow_add-k
overflow_add-k c = search sweeping_fits

pub loop-k-preserved : goal.loop-k-preserved
loop-k-preserved c =
    sweeping_more c.loop-k.invariant c.if-j-m.either c.set_place-in-loop-k.ensures c.next_field-next.ensures c.in_ok-merge_field.ensures
    refl c.takes_old.ensures c.add-i.ensures c.takes_new.ensures c.add-j.ensures
    c.merge_field.auto.arena c.merge_field.auto.held

pub returns-in_err-merge_field : goal.returns-in_err-merge_field
returns-in_err-merge_field c =
    let p = err_from_is_err_and c.from_residual.result c.from_residual.ensures.1 in
    rw (p.1, p.2) (sweeping_refused c.loop-k.invariant c.if-j-m.either c.set_place-in-loop-k.ensures c.next_field-next.ensures c.in_err-merge_field.ensures refl)

pub returns-else-j-m : goal.returns-else-j-m
returns-else-j-m c = sweeping_done c.loop-k.invariant (inr c.if-j-m.false)

pub returns-after-loop-k : goal.returns-after-loop-k
returns-after-loop-k c = sweeping_done c.loop-k.invariant (inl c.loop-k-test.false)
