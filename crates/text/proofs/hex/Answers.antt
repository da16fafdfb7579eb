-- `text::hex` meets its contract. Assumes nothing.
use Rattle.text.proofs.Naming.{hex_digit, hex_letter, hex_none}
use native.Mathlib.Omega.{arith}
use Rattle.text.proofs.hex.Goals as goal

pub returns-in-48-to-57 : goal.returns-in-48-to-57
returns-in-48-to-57 c = hex_digit (omega arith) (omega arith) c.from.ensures

pub returns-in-97-to-102 : goal.returns-in-97-to-102
returns-in-97-to-102 c = hex_letter (omega arith) (omega arith) c.from-in-97-to-102.ensures

pub returns-in_default : goal.returns-in_default
returns-in_default c = hex_none (λ g h. omega arith) (λ g h. omega arith)

pub returns-in_default-2 : goal.returns-in_default-2
returns-in_default-2 c = hex_none (λ g h. omega arith) (λ g h. omega arith)

pub returns-in_default-3 : goal.returns-in_default-3
returns-in_default-3 c = hex_none (λ g h. omega arith) (λ g h. omega arith)
