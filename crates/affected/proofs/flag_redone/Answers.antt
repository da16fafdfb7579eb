use Rattle.affected.proofs.Reaching.{redone_is}
use Rattle.affected.proofs.flag_redone.Goals as goal

pub returns : goal.returns
returns c = search redone_is
