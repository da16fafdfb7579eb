use native.Mathlib.Omega.{arith}
use Rattle.signatures.proofs.Codes.{code_written, code_refused}
use Rattle.signatures.proofs.code.Goals as goal

pub returns-in-Ok : goal.returns-in-Ok
returns-in-Ok c = code_written c.in-Ok.is (omega arith)

pub returns-in-Err : goal.returns-in-Err
returns-in-Err c = code_refused c.in-Err.is (omega arith) (omega arith) (omega arith)
