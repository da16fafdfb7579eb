-- `answer` leaves every slice as long as it was, so there are as many zeros as cells were lent.
use Rattle.canon_call.proofs.Calling.{calls}
use Rattle.canon_call.proofs.call.Goals as goal

pub returns : goal.returns
returns c = search calls
