use borrow.Author.Rules.{rules}
use Rattle.listing.proofs.Listings.{numbers_listed}
use Rattle.listing.proofs.lines.key_list.Goals as goal

pub returns : goal.returns
returns c = (c.number_list.ensures.0, numbers_listed (λ y. y) c.args.words.now c.args.a (λ i v lt e. search rules) c.number_list.ensures.1)
