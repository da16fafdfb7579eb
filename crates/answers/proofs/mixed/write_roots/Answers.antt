use mathlib.Core.Path.{refl, ◌∙◌}
use Rattle.answers.proofs.Mixing.{listing_start, listing_next, listing_done}
use Rattle.answers.proofs.mixed.write_roots.Goals as goal

pub loop-i-init : goal.loop-i-init
loop-i-init c = (refl, (refl, listing_start))

pub loop-i-preserved : goal.loop-i-preserved
loop-i-preserved c = (
  c.write_root.auto.table ∙ c.loop-i.invariant.0,
  (
    c.write_root.ensures.0 ∙ c.loop-i.invariant.1.0,
    listing_next c.loop-i.invariant.1.1 c.loop-i-test.true c.write_root.auto.arena c.write_root.auto.work c.write_root.ensures.1,
  ),
)

pub returns : goal.returns
returns c = (c.loop-i.invariant.1.0 ∙ c.answers.ensures.0, search listing_done)
