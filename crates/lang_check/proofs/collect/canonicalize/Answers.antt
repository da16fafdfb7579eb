-- The working slice has the bits of the first pass, so the set found there is the rules'; clearing it after the second leaves the table as it was.
use mathlib.Core.Path.{ap}
use Rattle.lang_check.specs.RootAnswer.{root_answer}
use Rattle.lang_check.proofs.Passes.{canonicalizes_refused, canonicalizes_once, canonicalizes_twice}
use Rattle.lang_check.proofs.collect.canonicalize.Goals as goal

pub returns-in_default : goal.returns-in_default
returns-in_default c = canonicalizes_refused c.one_pass-g.ensures c.first_shown-first.ensures (ap root_answer c.in_default.is)

pub returns-then-not-detected_cooccurring : goal.returns-then-not-detected_cooccurring
returns-then-not-detected_cooccurring c =
    canonicalizes_once c.one_pass-g.ensures c.first_shown-first.ensures (ap root_answer c.in-Ok.is) c.detected_cooccurring.ensures
    c.if-not-detected_cooccurring.true

pub returns : goal.returns
returns c =
    canonicalizes_twice c.one_pass-g.ensures c.first_shown-first.ensures (ap root_answer c.in-Ok.is) c.detected_cooccurring.ensures
    c.if-not-detected_cooccurring.false c.one_pass-h.ensures c.clear.ensures c.second_shown.ensures c.detected_cooccurring.auto.table
    c.one_pass-g.auto.arena c.one_pass-g.auto.work
