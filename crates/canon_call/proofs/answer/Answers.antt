-- What was found so far settles the rules' call on each way out, in their order: short scratch, the table's text, whether it has the root, the text.
use native.Mathlib.Omega.{arith}
use Rattle.std.proofs.lemmas.Result.{err_from_is_err_and}
use Rattle.outcomes.proofs.Promises.{long_enough}
use Rattle.canon_call.proofs.Calling.{short_answer, refused_answer, no_entry_lem, delivered}
use Rattle.canon_call.proofs.answer.Goals as goal

pub returns-then-is_short : goal.returns-then-is_short
returns-then-is_short c =
    short_answer c.is_short.ensures c.if-is_short.true

pub read-requires : goal.read-requires
read-requires c =
    omega (arith, (long_enough c.is_short.ensures c.if-is_short.false).0, c.clear.auto.s)

pub returns-in_err-t : goal.returns-in_err-t
returns-in_err-t c =
    let p = err_from_is_err_and c.from_residual.result c.from_residual.ensures.1 in
    rw (p.1, p.2) (refused_answer c.is_short.ensures c.if-is_short.false c.in_err-t.ensures)

pub returns-then-is_no_entry : goal.returns-then-is_no_entry
returns-then-is_no_entry c =
    no_entry_lem c.is_short.ensures c.if-is_short.false c.clear.ensures c.clear.auto.s c.in_ok-t.ensures c.is_no_entry.ensures c.if-is_no_entry.true

pub returns : goal.returns
returns c =
    delivered c.is_short.ensures c.if-is_short.false c.clear.ensures c.clear.auto.s c.in_ok-t.ensures c.is_no_entry.ensures c.if-is_no_entry.false
    c.prepare-g.ensures c.prepare-g.auto.table c.deliver.ensures
