-- A tab and a word written one after the other are one text, and the flag picks the word.
use Rattle.answers.proofs.Mixing.{word_kept, word_redone}
use Rattle.answers.proofs.mixed.write_word.Goals as goal

pub returns-then-is_kept : goal.returns-then-is_kept
returns-then-is_kept c = search word_kept

pub returns-else-is_kept : goal.returns-else-is_kept
returns-else-is_kept c = search word_redone
