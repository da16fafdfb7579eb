use Rattle.listing.proofs.Texts.{word_more}
use Rattle.listing.proofs.write.Writer.word.Goals as goal

pub loop-b-preserved : goal.loop-b-preserved
loop-b-preserved c = search (word_more c.args.w.now c.loop-b.b-index)
