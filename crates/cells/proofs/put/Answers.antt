use lib.Seq.{set_out}
use mathlib.Core.Path.{sym}
use Rattle.cells.proofs.put.Goals as goal

pub returns-else-i-s : goal.returns-else-i-s
returns-else-i-s c = sym (set_out c.args.s.now c.args.i c.args.v c.if-i-s.false)
