use Rattle.members.proofs.Flattened.{flat_few, flat_nested, flat_plain}
use Rattle.members.proofs.flatten.flatten_composite.Goals.{then-n-le64-via-then-n-le64, then-n-le64-via-else-n-le64+then-any_is_of}
use Rattle.members.proofs.flatten.flatten_composite.Goals as goal

pub returns-then-n-le64 : goal.returns-then-n-le64
returns-then-n-le64 c =
    elim c.then-n-le64.branch [
      | then-n-le64-via-then-n-le64 w ↦ search flat_few
      | then-n-le64-via-else-n-le64+then-any_is_of w ↦ search flat_nested
    ]

pub returns : goal.returns
returns c = search flat_plain
