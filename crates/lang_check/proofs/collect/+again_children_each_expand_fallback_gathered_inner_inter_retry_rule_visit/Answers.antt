use mathlib.Core.Path.{refl, ap}
use borrow.Author.Rules.{rules}
use Rattle.std.proofs.lemmas.Result.{err_from_is_err_and}
use Rattle.std.specs.Prelude.{Ok}
use Rattle.storage.specs.Helds.{own_of}
use Rattle.composites.specs.Settled.{settled}
use Rattle.composites.specs.Tried.{tried}
use Rattle.composites.specs.declared.lists.Ending.{Ending}
use Rattle.composites.specs.declared.binary.Outcome.{Outcome}
use Rattle.lang_check.proofs.Rule.{children as makes-children, rules_variable, rules_inter, rules_made}
use Rattle.lang_check.proofs.Visit.{visits_bailed, visits_over, visits_busy, visits_cached, visits_full, visits_works}
use Rattle.lang_check.proofs.Expand.{gathers, expands_node, expands_empty, expands_refused, falls_spent, falls_cut, falls_on, inner_named, inner_variable, inner_bounds, nowhere}
use Rattle.lang_check.proofs.Inter.{inters, retries, again_node, again_refused, again_bottom, again_retry}
use Rattle.lang_check.proofs.MadeOf.{made_refused, retried_refused}
use Rattle.lang_check.proofs.Each.{eaching_start, eaching_more, each_refused, each_done}
use Rattle.lang_check.proofs.Steps.{caches_node, caches_refused}
use Rattle.lang_check.proofs.collect.+again_children_each_expand_fallback_gathered_inner_inter_retry_rule_visit.Goals as goal

pub again-returns-then-not-either_variable : goal.again-returns-then-not-either_variable
again-returns-then-not-either_variable t c =
    again_bottom (ap (λ (v : Outcome). tried (Ok v) c.args.q.now) c.in-Contradiction.is) c.either_variable.ensures c.if-not-either_variable.true
    c.store_leaf.ensures

pub again-returns-in-Node : goal.again-returns-in-Node
again-returns-in-Node t c = again_node (ap (λ (v : Outcome). tried (Ok v) c.args.q.now) c.in-Node.is)

pub again-returns-else-not-either_variable : goal.again-returns-else-not-either_variable
again-returns-else-not-either_variable t c =
    again_retry (ap (λ (v : Outcome). tried (Ok v) c.args.q.now) c.in-Contradiction.is) c.either_variable.ensures c.if-not-either_variable.false
    c.retry.ensures

pub children-returns : goal.children-returns
children-returns t c = search makes-children

pub each-loop-i-init : goal.each-loop-i-init
each-loop-i-init t c = (search rules, eaching_start)

pub each-loop-i-preserved : goal.each-loop-i-preserved
each-loop-i-preserved t c = (
  c.loop-i.invariant.0,
  eaching_more c.loop-i.invariant.1 c.loop-i-test.true c.place.ensures c.get-b.ensures c.add.ensures c.side.ensures c.in_ok-x.ensures refl
      c.visit.auto.arena c.visit.auto.work c.place-in-loop-i.ensures c.put.ensures,
)

pub each-returns-in_err-x : goal.each-returns-in_err-x
each-returns-in_err-x t c =
    let p = err_from_is_err_and c.from_residual.result c.from_residual.ensures.1 in
    rw (p.1, p.2) (each_refused c.loop-i.invariant.1 c.loop-i-test.true c.place.ensures c.get-b.ensures c.add.ensures c.side.ensures
    c.in_err-x.ensures refl)

pub each-returns : goal.each-returns
each-returns t c = each_done c.loop-i.invariant.1 c.loop-i-test.false

pub expand-returns-in_err-e : goal.expand-returns-in_err-e
expand-returns-in_err-e t c =
    let p = err_from_is_err_and c.from_residual.result c.from_residual.ensures.1 in
    rw (p.1, p.2) (expands_refused c.in_err-e.ensures refl)

pub expand-returns-in-Node : goal.expand-returns-in-Node
expand-returns-in-Node t c = expands_node c.in_ok-e.ensures (ap (λ (v : Ending). settled (Ok v) c.gathered.new.q) c.in-Node.is)

pub expand-returns-in-Empty : goal.expand-returns-in-Empty
expand-returns-in-Empty t c =
    expands_empty c.in_ok-e.ensures (ap (λ (v : Ending). settled (Ok v) c.gathered.new.q) c.in-Empty.is) c.gathered.auto.work c.fallback.ensures

pub fallback-returns-then-chain-eq0 : goal.fallback-returns-then-chain-eq0
fallback-returns-then-chain-eq0 t c = falls_spent c.if-chain-eq0.true c.variable.ensures

pub fallback-returns-then-is_cut : goal.fallback-returns-then-is_cut
fallback-returns-then-is_cut t c =
    falls_cut c.if-chain-eq0.false c.begin_list-n.ensures c.is_cut.ensures c.if-is_cut.true c.variable-then-is_cut.ensures

pub fallback-returns : goal.fallback-returns
fallback-returns t c =
    falls_on c.if-chain-eq0.false c.begin_list-n.ensures c.begin_list-n.auto.work c.is_cut.ensures c.if-is_cut.false
    c.begin-next.ensures c.flip.ensures c.expand.ensures

pub gathered-returns : goal.gathered-returns
gathered-returns t c =
    gathers c.deduplicated-m.ensures c.deduplicated-m.auto.work c.each-f.ensures c.each-f.auto.work c.normalize.ensures

pub inner-returns-in-Some : goal.inner-returns-in-Some
inner-returns-in-Some t c = inner_named c.named_bound.ensures c.in-Some.is c.visit.ensures

pub inner-returns-in_default-own_bounds : goal.inner-returns-in_default-own_bounds
inner-returns-in_default-own_bounds t c =
    inner_variable c.named_bound.ensures (nowhere c.named_bound.result c.in_default.not-Some) c.note.ensures c.own_bounds.ensures
    (ap own_of c.in_default-own_bounds.is) c.variable.ensures

pub inner-returns : goal.inner-returns
inner-returns t c =
    inner_bounds c.named_bound.ensures (nowhere c.named_bound.result c.in_default.not-Some) c.note.ensures c.own_bounds.ensures
    (ap own_of c.in-Some-own_bounds.is) c.own_bounds.auto.work c.none_begun-begun.ensures c.expand-g.ensures c.expanded.ensures

pub inter-returns-in_err-t : goal.inter-returns-in_err-t
inter-returns-in_err-t t c =
    let p = err_from_is_err_and c.from_residual.result c.from_residual.ensures.1 in
    rw (p.1, p.2) (inters c.hold_two-n.ensures c.each-f.ensures c.in_err-t.ensures (again_refused refl) c.hold_two-n.auto.work c.each-f.auto.work
    c.inter_tried.auto.work)

pub inter-returns : goal.inter-returns
inter-returns t c =
    inters c.hold_two-n.ensures c.each-f.ensures c.in_ok-t.ensures c.again.ensures c.hold_two-n.auto.work c.each-f.auto.work
    c.inter_tried.auto.work

pub retry-returns-in_err-t : goal.retry-returns-in_err-t
retry-returns-in_err-t t c =
    let p = err_from_is_err_and c.from_residual.result c.from_residual.ensures.1 in
    rw (p.1, p.2) (retries c.hold_two-n.ensures c.turned-pa.ensures c.turned-pb.ensures c.each-f.ensures c.in_err-t.ensures (retried_refused refl)
    c.hold_two-n.auto.work c.each-f.auto.work c.inter_tried.auto.work)

pub retry-returns : goal.retry-returns
retry-returns t c =
    retries c.hold_two-n.ensures c.turned-pa.ensures c.turned-pb.ensures c.each-f.ensures c.in_ok-t.ensures c.retried.ensures
    c.hold_two-n.auto.work c.each-f.auto.work c.inter_tried.auto.work

pub rule-returns-in-Variable : goal.rule-returns-in-Variable
rule-returns-in-Variable t c = search rules_variable

pub rule-returns-in-Inter : goal.rule-returns-in-Inter
rule-returns-in-Inter t c = search rules_inter

pub rule-returns-in_err-children-in_default : goal.rule-returns-in_err-children-in_default
rule-returns-in_err-children-in_default t c =
    let p = err_from_is_err_and c.from_residual.result c.from_residual.ensures.1 in
    rw (p.1, p.2) (rules_made c.entry_at-e.ensures c.in_default.not-Variable c.in_default.not-Inter c.in_err-children-in_default.ensures (made_refused refl)
    c.children.auto.work)

pub rule-returns-in_ok-children-in_default : goal.rule-returns-in_ok-children-in_default
rule-returns-in_ok-children-in_default t c =
    rules_made c.entry_at-e.ensures c.in_default.not-Variable c.in_default.not-Inter c.in_ok-children-in_default.ensures c.made.ensures c.children.auto.work

pub visit-returns-then-q : goal.visit-returns-then-q
visit-returns-then-q t c = visits_bailed c.if-q.true c.variable.ensures

pub visit-returns-then-exceeds : goal.visit-returns-then-exceeds
visit-returns-then-exceeds t c =
    visits_over c.if-q.false c.count_one.ensures c.exceeds.ensures c.if-exceeds.true c.bail.ensures c.variable-then-exceeds.ensures

pub visit-returns-then-k-eq1 : goal.visit-returns-then-k-eq1
visit-returns-then-k-eq1 t c =
    visits_busy c.if-q.false c.count_one.ensures c.exceeds.ensures c.if-exceeds.false c.slot-s.ensures c.at-k.ensures c.if-k-eq1.true c.variable-then-k-eq1.ensures

pub visit-returns-then-k-gt1 : goal.visit-returns-then-k-gt1
visit-returns-then-k-gt1 t c =
    visits_cached c.if-q.false c.count_one.ensures c.exceeds.ensures c.if-exceeds.false c.slot-s.ensures c.at-k.ensures c.if-k-gt1.true

pub visit-returns-then-free-eq0 : goal.visit-returns-then-free-eq0
visit-returns-then-free-eq0 t c =
    visits_full c.if-q.false c.count_one.ensures c.exceeds.ensures c.if-exceeds.false c.slot-s.ensures c.at-k.ensures c.if-k-eq1.false c.if-k-gt1.false c.if-free-eq0.true

pub visit-returns-in_err-x : goal.visit-returns-in_err-x
visit-returns-in_err-x t c =
    let p = err_from_is_err_and c.from_residual.result c.from_residual.ensures.1 in
    rw (p.1, p.2) (visits_works c.if-q.false c.count_one.ensures c.exceeds.ensures c.if-exceeds.false c.slot-s.ensures c.at-k.ensures c.if-k-eq1.false c.if-k-gt1.false c.if-free-eq0.false
    c.set.ensures c.in_err-x.ensures c.rule.auto.work (caches_refused refl))

pub visit-returns : goal.visit-returns
visit-returns t c =
    visits_works c.if-q.false c.count_one.ensures c.exceeds.ensures c.if-exceeds.false c.slot-s.ensures c.at-k.ensures c.if-k-eq1.false c.if-k-gt1.false c.if-free-eq0.false
    c.set.ensures c.in_ok-x.ensures c.rule.auto.work (caches_node refl c.add.ensures c.set-2.ensures)
