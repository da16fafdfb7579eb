-- The first writing tells how long the text is, even where the draft cannot hold it, and leaves the table as it was: a second one writes the same.
use Rattle.answers.proofs.Asking.{deliver_anew, deliver_copy}
use Rattle.answers.proofs.asked.deliver.Goals as goal

pub returns-then-draft-len : goal.returns-then-draft-len
returns-then-draft-len c =
    deliver_anew c.write_asked-size.ensures c.write_asked-size.auto.arena c.write_asked-size.auto.work c.if-out-len.false c.write_asked.ensures

pub returns-else-draft-len : goal.returns-else-draft-len
returns-else-draft-len c = search deliver_copy
