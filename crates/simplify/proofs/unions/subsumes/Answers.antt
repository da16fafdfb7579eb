use mathlib.Core.Path.{ap}
use mathlib.Core.Bool.{not}
use Rattle.simplify.proofs.Absorbed.{subsumes_other, subsumes_closed, subsumes_shut, subsumes_dyn, subsumes_fields}
use Rattle.simplify.proofs.unions.subsumes.Goals.{then-open-ne1-via-then-open-ne1, then-open-ne1-via-else-open-ne1+then-open-ne1-2}
use Rattle.simplify.proofs.unions.subsumes.Goals as goal

pub returns-then-not-is : goal.returns-then-not-is
returns-then-not-is c = search subsumes_other

pub returns-then-open-ne1 : goal.returns-then-open-ne1
returns-then-open-ne1 c =
    let same = ap not c.if-not-is.false in
    elim c.then-open-ne1.branch [
      | then-open-ne1-via-then-open-ne1 w ↦ subsumes_closed c.is.ensures same c.set_place-a.ensures c.set_place-b.ensures c.open.ensures w.if-open-ne1.true
      | then-open-ne1-via-else-open-ne1+then-open-ne1-2 w ↦
          subsumes_shut c.is.ensures same c.set_place-a.ensures c.set_place-b.ensures c.open.ensures w.if-open-ne1.false w.open-else-open-ne1.ensures w.if-open-ne1-2.true
    ]

pub returns-then-dyn_covers : goal.returns-then-dyn_covers
returns-then-dyn_covers c = search subsumes_fields

pub returns-else-dyn_covers : goal.returns-else-dyn_covers
returns-else-dyn_covers c = search subsumes_dyn
