use Rattle.listing.proofs.Texts.{decimal_one, decimal_two}
use Rattle.listing.proofs.write.Writer.+decimal.Goals as goal

pub returns-then-n-lt10 : goal.returns-then-n-lt10
returns-then-n-lt10 t c = search decimal_one

pub returns-else-n-lt10 : goal.returns-else-n-lt10
returns-else-n-lt10 t c = search decimal_two
