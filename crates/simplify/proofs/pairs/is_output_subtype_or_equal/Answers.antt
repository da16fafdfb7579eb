use mathlib.Core.Path.{ap}
use mathlib.Core.Bool.{not}
use Rattle.simplify.proofs.Redundant.{below_equal, below_not, below_neither, below_primitives}
use Rattle.simplify.proofs.pairs.is_output_subtype_or_equal.Goals.{then-not-is-via-then-not-is, then-not-is-via-else-not-is+then-not-is-2}
use Rattle.simplify.proofs.pairs.is_output_subtype_or_equal.Goals as goal

pub returns-then-a-b : goal.returns-then-a-b
returns-then-a-b c = below_equal c.if-a-b.true

pub returns-then-not-is : goal.returns-then-not-is
returns-then-not-is c =
    elim c.then-not-is.branch [
      | then-not-is-via-then-not-is w ↦ below_not c.if-a-b.false c.is.ensures (ap not w.if-not-is.true)
      | then-not-is-via-else-not-is+then-not-is-2 w ↦
          below_neither c.if-a-b.false c.is.ensures (ap not w.if-not-is.false) w.is-else-not-is.ensures (ap not w.if-not-is-2.true)
    ]

pub returns : goal.returns
returns c = search below_primitives
