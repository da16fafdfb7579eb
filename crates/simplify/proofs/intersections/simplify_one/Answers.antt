use Rattle.simplify.proofs.Simplified.{simplified_into}
use Rattle.simplify.proofs.intersections.simplify_one.Goals as goal

pub returns : goal.returns
returns c = simplified_into c.simplified-part.ensures (c.grow.ensures.grows c.simplified-part.new.q)
