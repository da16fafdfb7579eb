-- `answer` leaves every slice as long as it was, so there are as many zeros as cells were lent.
use Rattle.recheck_call.proofs.Calling.{rechecked}
use Rattle.recheck_call.proofs.recheck_in.Goals as goal

pub returns : goal.returns
returns c =
    rechecked c.answer-r.ensures c.answer-r.auto.draft c.answer-r.auto.old c.answer-r.auto.table
    c.answer-r.auto.arena c.answer-r.auto.work (c.fill.ensures.after (λ y h. h)) c.wipe_all.ensures
