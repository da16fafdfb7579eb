use Rattle.answers.proofs.Mixing.{kept_is}
use Rattle.answers.proofs.mixed.is_kept.Goals as goal

pub returns : goal.returns
returns c = kept_is c.place.ensures c.get.ensures
