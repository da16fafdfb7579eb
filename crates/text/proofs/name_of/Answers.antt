-- `text::name_of` meets its contract. Assumes nothing.
use Rattle.text.proofs.Naming.{name_bad, name_done, name_fits, name_move, name_open, name_place, name_put, name_start}
use mathlib.Core.Path.{ap, ◌∙◌}
use Rattle.std.specs.Prelude.{Some}
use Rattle.text.proofs.name_of.Goals.{in-Move, in-Put}
use Rattle.text.proofs.name_of.Goals as goal

pub loop-i-init : goal.loop-i-init
loop-i-init c = search name_start

pub next-requires : goal.next-requires
next-requires c = search name_fits

pub returns-in_err-q : goal.returns-in_err-q
returns-in_err-q c = rw c.from_residual.ensures (search (name_bad, c.in_err-q.was))

pub bounds-words-t : goal.bounds-words-t
bounds-words-t c = search name_place

pub loop-i-preserved : goal.loop-i-preserved
loop-i-preserved c =
    let inv = c.loop-i.invariant in
    elim c.match-branch-2.branch [
      | in-Move w ↦ rw (w.words-is, w.state-is, w.t-is) (name_move inv c.loop-i-test.true c.next.ensures (c.in_ok-q.was ∙ ap Some w.in-Move.is))
      | in-Put w ↦ rw (w.words-is, w.state-is, w.t-is) (name_put inv c.loop-i-test.true c.next.ensures c.requires (c.in_ok-q.was ∙ ap Some w.in-Put.is))
    ]

pub returns-in-Plain : goal.returns-in-Plain
returns-in-Plain c = search name_done

pub returns-in_default : goal.returns-in_default
returns-in_default c = search (name_open, c.in_default.not-Plain)
