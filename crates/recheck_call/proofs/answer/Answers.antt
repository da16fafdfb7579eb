-- What was found so far settles the rules' call on each way out, in their order: short scratch, the old table, the new one, and what comes of both.
use native.Mathlib.Omega.{arith}
use Rattle.std.proofs.lemmas.Result.{err_from_is_err_and}
use Rattle.outcomes.proofs.Promises.{long_enough}
use Rattle.recheck_call.proofs.Calling.{refused_new, compared_new, short_old, short_answer, refused_answer, new_answer}
use Rattle.recheck_call.proofs.answer.Goals.{then-old-lt-LENGTH-via-then-old-lt-LENGTH, then-old-lt-LENGTH-via-else-old-lt-LENGTH+then-is_short}
use Rattle.recheck_call.proofs.answer.Goals as goal

pub returns-then-old-lt-LENGTH : goal.returns-then-old-lt-LENGTH
returns-then-old-lt-LENGTH c = elim c.then-old-lt-LENGTH.branch [
  | then-old-lt-LENGTH-via-then-old-lt-LENGTH w ↦ short_old w.if-old-lt-LENGTH.true
  | then-old-lt-LENGTH-via-else-old-lt-LENGTH+then-is_short w ↦ short_answer w.if-old-lt-LENGTH.false w.is_short.ensures w.if-is_short.true
]

pub returns-in_err-u : goal.returns-in_err-u
returns-in_err-u c =
    let p = err_from_is_err_and c.from_residual.result c.from_residual.ensures.1 in
    rw (p.1, p.2) (refused_answer c.if-old-lt-LENGTH.false c.is_short.ensures c.if-is_short.false c.in_err-u.ensures)

pub read-requires-2 : goal.read-requires-2
read-requires-2 c =
    omega (arith, (long_enough c.is_short.ensures c.if-is_short.false).0, c.clear.auto.s)

pub returns-in_err-t : goal.returns-in_err-t
returns-in_err-t c =
    let p = err_from_is_err_and c.from_residual-in_err-t.result c.from_residual-in_err-t.ensures.1 in
    rw (p.1, p.2)
    (new_answer c.if-old-lt-LENGTH.false c.is_short.ensures c.if-is_short.false c.in_ok-u.ensures (refused_new c.in_err-t.ensures))

pub returns : goal.returns
returns c =
    new_answer c.if-old-lt-LENGTH.false c.is_short.ensures c.if-is_short.false c.in_ok-u.ensures
    (compared_new c.in_ok-t.ensures c.clear.ensures c.clear.auto.s c.compare_both.ensures)
