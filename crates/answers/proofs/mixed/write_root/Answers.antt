-- The root's flag tells which lines: those that are kept are a part of the old listing, the others come from a run of the id and sign in its row.
use Rattle.answers.proofs.Mixing.{lines_kept, lines_redone}
use Rattle.answers.proofs.mixed.write_root.Goals as goal

pub returns-in-Some : goal.returns-in-Some
returns-in-Some c = search lines_kept

pub returns : goal.returns
returns c = search lines_redone
