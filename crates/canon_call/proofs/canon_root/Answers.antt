use mathlib.Core.Path.{refl}
use Rattle.rules.specs.Calls.{canon_root_call}
use Rattle.canon_call.proofs.canon_root.Goals as goal

pub returns : goal.returns
unfolding canon_root_call
returns c =
    c.call.ensures.is _ refl
