-- `text::next` meets its contract. Assumes nothing.
use Rattle.text.proofs.Naming.{next_escaped, next_first, next_needless, next_no_first, next_no_second, next_plain, next_raw, next_slash}
use Rattle.text.proofs.next.Goals as goal

pub returns-then-b-eq92 : goal.returns-then-b-eq92
returns-then-b-eq92 c = search next_slash

pub returns-then-escaped : goal.returns-then-escaped
returns-then-escaped c = next_raw c.in-Plain.is c.from-x.ensures c.if-b-eq92.false c.escaped.ensures c.if-escaped.true

pub returns-else-escaped : goal.returns-else-escaped
returns-else-escaped c = next_plain c.in-Plain.is c.from-x.ensures c.if-b-eq92.false c.escaped.ensures c.if-escaped.false

pub returns-in_err-hex-in-Slash : goal.returns-in_err-hex-in-Slash
returns-in_err-hex-in-Slash c = rw c.from_residual.ensures (next_no_first c.in-Slash.is c.in_err-hex-in-Slash.ensures)

pub returns-in_ok-hex-in-Slash : goal.returns-in_ok-hex-in-Slash
returns-in_ok-hex-in-Slash c = next_first c.in-Slash.is c.in_ok-hex-in-Slash.ensures

pub returns-in_err-x-in-Digit : goal.returns-in_err-x-in-Digit
returns-in_err-x-in-Digit c = rw c.from_residual-in_err-x-in-Digit.ensures (next_no_second c.in-Digit.is c.in_err-x-in-Digit.ensures)

pub returns-then-escaped-2 : goal.returns-then-escaped-2
returns-then-escaped-2 c = next_escaped c.in-Digit.is c.in_ok-x-in-Digit.ensures c.escaped-in-Digit.ensures c.if-escaped-2.true

pub returns-else-escaped-2 : goal.returns-else-escaped-2
returns-else-escaped-2 c = next_needless c.in-Digit.is c.in_ok-x-in-Digit.ensures c.escaped-in-Digit.ensures c.if-escaped-2.false
