use Rattle.merge.proofs.Sieving.{sieved_lacks, sieved_has}
use Rattle.merge.proofs.sieved.Goals as goal

pub returns-then-not-starts : goal.returns-then-not-starts
returns-then-not-starts c = search sieved_lacks

pub returns : goal.returns
returns c = search sieved_has
