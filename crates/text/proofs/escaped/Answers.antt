-- `text::escaped` meets its contract. Assumes nothing.
use native.Mathlib.Omega.{arith}
use Rattle.text.proofs.Naming.{escaped_yes, escaped_no}
use Rattle.text.proofs.escaped.Goals as goal

pub returns-in_default : goal.returns-in_default
returns-in_default c = escaped_no (omega arith) (λ e. grind arith) (λ e. grind arith)

pub returns-in-0-to-31 : goal.returns-in-0-to-31
returns-in-0-to-31 c = escaped_yes (λ g n m. omega arith)

pub returns-in-0-to-31-2 : goal.returns-in-0-to-31-2
returns-in-0-to-31-2 c = escaped_yes (λ g n m. omega arith)
