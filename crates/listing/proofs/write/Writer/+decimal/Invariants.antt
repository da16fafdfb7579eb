-- It ends since n / 10 is below n; the digits of n are those of n / 10 and one more.
use Rattle.listing.proofs.write.Writer.+decimal.Given as goal

abbrev pub decreases-decimal : goal.decreases-decimal
decreases-decimal l = l.n
