use mathlib.Core.Path.{refl}
use Rattle.canon_call.proofs.Calling.{all_known, root_known, mixed_known}
use Rattle.canon_call.proofs.is_no_entry.Goals as goal

pub returns-in-All : goal.returns-in-All
returns-in-All c = all_known c.in-All.is

pub returns-in-Root : goal.returns-in-Root
returns-in-Root c =
    root_known c.in-Root.is refl

pub returns-in-Mixed : goal.returns-in-Mixed
returns-in-Mixed c = mixed_known c.in-Mixed.is
