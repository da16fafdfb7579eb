-- Both sums fit for a field below the most names, and neither write is before the area.
use Rattle.merge.proofs.MergeFields.{puts_field}
use Rattle.merge.proofs.put_field.Goals as goal

pub returns : goal.returns
returns c = search puts_field
