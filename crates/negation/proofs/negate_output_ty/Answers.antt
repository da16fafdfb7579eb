-- The negation begins with nothing remembered.
use Rattle.negation.proofs.Turning.{output_given}
use Rattle.negation.proofs.negate_output_ty.Goals as goal

pub returns : goal.returns
returns c = search output_given
