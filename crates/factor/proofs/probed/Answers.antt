use native.Mathlib.Omega.{arith}
use Rattle.factor.proofs.probed.Goals as goal

pub returns-then-high-n : goal.returns-then-high-n
returns-then-high-n c = record { low = omega arith; high = omega arith }

pub returns : goal.returns
returns c = record { low = omega arith; high = omega arith }
