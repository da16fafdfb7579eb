use lib.Seq.{set_out}
use mathlib.Core.Path.{sym}
use Rattle.listing.proofs.write.put.Goals as goal

pub returns-else-i-out : goal.returns-else-i-out
returns-else-i-out c = sym (set_out c.args.out.now c.args.i c.args.b c.if-i-out.false)
