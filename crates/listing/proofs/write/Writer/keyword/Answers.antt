use Rattle.listing.proofs.Texts.{part_more, keyword_done}
use Prim.Native.Nat.{◌+◌, ◌*◌}
use Rattle.listing.proofs.write.Writer.keyword.Goals as goal

pub loop-k-preserved : goal.loop-k-preserved
loop-k-preserved c = search (part_more c.args.kinds.now (17 * c.args.i + 1) c.loop-k.k)

pub returns : goal.returns
returns c = search (keyword_done c.args.kinds.now c.args.i c.at-n.result c.loop-k.k)
