-- `old_listing::read_old` meets its contract: after the first line, which has to be `answers` with the count, and the line `numbered` of a numbered
-- listing, all lines are the roots'. Assumes nothing.
use Rattle.old_listing.proofs.Takes.{old_long, old_none, old_other, old_poor, old_header, old_roots}
use Rattle.std.proofs.lemmas.Result.{err_from_is_err_and}
use Rattle.old_listing.proofs.read_old.Goals.{then-text-gt-TEXT-via-then-text-gt-TEXT, then-text-gt-TEXT-via-else-text-gt-TEXT+then-words-lt-LINE}
use Rattle.old_listing.proofs.read_old.Goals as goal

pub returns-then-text-gt-TEXT : goal.returns-then-text-gt-TEXT
returns-then-text-gt-TEXT c = elim c.then-text-gt-TEXT.branch [
  | then-text-gt-TEXT-via-then-text-gt-TEXT w ↦ search old_long
  | then-text-gt-TEXT-via-else-text-gt-TEXT+then-words-lt-LINE w ↦ search old_poor
]

pub returns-in_err-e : goal.returns-in_err-e
returns-in_err-e c =
    let p = err_from_is_err_and c.from_residual.result c.from_residual.ensures.1 in
    rw (p.1, p.2) (old_none c.if-text-gt-TEXT.false c.in_err-e.ensures)

pub returns-then-not-is_answers : goal.returns-then-not-is_answers
returns-then-not-is_answers c = search (old_other, c.in_ok-e.ensures)

pub returns-in_err-next : goal.returns-in_err-next
returns-in_err-next c =
    let p = err_from_is_err_and c.from_residual-in_err-next.result c.from_residual-in_err-next.ensures.1 in
    rw (p.1, p.2)
    (old_header c.if-text-gt-TEXT.false c.in_ok-e.ensures c.is_answers.ensures c.if-not-is_answers.false c.header.ensures c.in_err-next.was)

pub returns : goal.returns
returns c =
    old_roots c.if-text-gt-TEXT.false c.in_ok-e.ensures c.is_answers.ensures c.if-not-is_answers.false c.header.ensures c.in_ok-next.was
    c.roots_from.ensures
