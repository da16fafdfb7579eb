-- With no root kept the lines of all roots are the rules' listing; with old lines among them, after the line of words, they are recheck's text.
use Rattle.answers.proofs.Asking.{all_asked, root_asked, mixed_asked}
use native.Mathlib.Omega.{arith}
use Rattle.answers.proofs.asked.write_asked.Goals as goal

pub returns-in-All : goal.returns-in-All
returns-in-All c = grind (arith, all_asked)

pub returns-in-Root : goal.returns-in-Root
returns-in-Root c = grind (arith, root_asked)

pub returns-in-Mixed : goal.returns-in-Mixed
returns-in-Mixed c = grind (arith, mixed_asked)
