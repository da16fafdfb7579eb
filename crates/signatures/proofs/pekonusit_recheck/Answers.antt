-- The rules refuse no call with 0, so the number tells this outcome and no other.
use Rattle.signatures.proofs.Codes.{recheck_exported}
use Rattle.signatures.proofs.pekonusit_recheck.Goals as goal

pub returns : goal.returns
returns c = search recheck_exported
