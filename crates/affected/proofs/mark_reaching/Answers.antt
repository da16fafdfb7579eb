-- A link goes from an entry to an id in it, so what links lead backwards to, from the entries that differ, is what has a chain to one.
use native.Mathlib.Omega.{arith}
use Rattle.affected.proofs.Reaching.{reaching_is}
use Rattle.affected.proofs.mark_reaching.Goals as goal

pub returns : goal.returns
returns c = grind (arith, reaching_is)
