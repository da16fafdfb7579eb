use borrow.Author.Rules.{rules}
use Rattle.listing.proofs.Listings.{numbers_listed}
use Rattle.listing.specs.Walks.{number_of}
use Rattle.listing.proofs.lines.node_list.Goals as goal

pub returns : goal.returns
returns c = (c.number_list.ensures.0, numbers_listed (number_of c.args.work.now) c.args.words.now c.args.a (λ i v lt e. search rules) c.number_list.ensures.1)
