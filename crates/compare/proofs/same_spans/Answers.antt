use Rattle.compare.proofs.Comparing.{spans_longer}
use Rattle.compare.proofs.same_spans.Goals as goal

pub returns-else-n-saturating_sub : goal.returns-else-n-saturating_sub
returns-else-n-saturating_sub c = search spans_longer
