-- No node is in any bucket once the newest of each is 0.
use Rattle.lang_ty.proofs.Stores.{fresh_is}
use Rattle.lang_ty.proofs.arena.fresh.Goals as goal

pub returns : goal.returns
returns c = search fresh_is
