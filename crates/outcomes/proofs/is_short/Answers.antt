use Rattle.outcomes.proofs.Promises.{short_any, short_last}
use Rattle.outcomes.proofs.is_short.Goals as goal

pub returns-then-arena-least : goal.returns-then-arena-least
returns-then-arena-least c = search short_any

pub returns-else-arena-least : goal.returns-else-arena-least
returns-else-arena-least c = search short_last
