-- What lies where in the lent slices, and how long each is, under the names that the contracts use.
use Rattle.std.specs.Prelude.{◌≡◌, ℕ}

-- a table: representatives from 0 on, marks, variables preserved, beginnings of rows, rows
abbrev pub marks_at : ℕ
marks_at = 2048

abbrev pub preserved_at : ℕ
preserved_at = 4096

abbrev pub rows_at : ℕ
rows_at = 6144

abbrev pub table_words : ℕ
table_words = 11842

abbrev pub table_length : ℕ
table_length = 77378

-- nodes: beginnings of rows from 0 on; the store's index: a link and a hash for each node, for each bucket its newest node; rows
abbrev pub earlier_at : ℕ
earlier_at = 4097

abbrev pub hashes_at : ℕ
hashes_at = 8193

abbrev pub newest_at : ℕ
newest_at = 12289

abbrev pub buckets : ℕ
buckets = 256

abbrev pub arena_words : ℕ
arena_words = 12545

abbrev pub arena_length : ℕ
arena_length = 57601

-- a line of an old listing
abbrev pub line_length : ℕ
line_length = 65536

-- what a pass works with: keys from 0 on, polarity bits, ids seen, two cells that nothing uses, what a negation remembers of each node, lists held
abbrev pub bits_at : ℕ
bits_at = 4096

abbrev pub seen_at : ℕ
seen_at = 6144

abbrev pub counted_nodes : ℕ
counted_nodes = 8192

abbrev pub counted_cells : ℕ
counted_cells = 8193

abbrev pub negated_at : ℕ
negated_at = 8194

abbrev pub held_at : ℕ
held_at = 12290

-- a merge holds its fields in one of two areas after each other
abbrev pub area_length : ℕ
area_length = 2048

abbrev pub work_length : ℕ
work_length = 45058

-- the same slice while recheck looks for the roots that an edit reaches: the last link to each entry, for each link the one to the same entry before it
-- and the entry that it goes from, marks of the entries reached, and these in a queue
abbrev pub heads_at : ℕ
heads_at = 0

abbrev pub next_at : ℕ
next_at = 2048

abbrev pub from_at : ℕ
from_at = 10241

abbrev pub reached_at : ℕ
reached_at = 18434

abbrev pub queue_at : ℕ
queue_at = 20482

-- in the old table of a recheck, after the places of the roots' old lines
abbrev pub redone_at : ℕ
redone_at = 65

abbrev pub draft_length : ℕ
draft_length = 65536

-- the code's numbers are these
pub record TableStated (marks preserved rows words : ℕ) : Type 0 where
  pub marks_at_lem : marks ≡ marks_at
  pub preserved_at_lem : preserved ≡ preserved_at
  pub rows_at_lem : rows ≡ rows_at
  pub words_at : words ≡ table_words

pub record PassStated (words bits seen held : ℕ) : Type 0 where
  pub words_at : words ≡ arena_words
  pub bits_at_lem : bits ≡ bits_at
  pub seen_at_lem : seen ≡ seen_at
  pub held_at_lem : held ≡ held_at

pub record IndexStated (earlier hashes newest many : ℕ) : Type 0 where
  pub earlier_at_lem : earlier ≡ earlier_at
  pub hashes_at_lem : hashes ≡ hashes_at
  pub newest_at_lem : newest ≡ newest_at
  pub many_are : many ≡ buckets

pub record LinksStated (next from marks queue : ℕ) : Type 0 where
  pub next_at_lem : next ≡ next_at
  pub from_at_lem : from ≡ from_at
  pub marks_at_lem : marks ≡ reached_at
  pub queue_at_lem : queue ≡ queue_at

pub record OthersStated (nodes cells redone line : ℕ) : Type 0 where
  pub nodes_at : nodes ≡ counted_nodes
  pub cells_at : cells ≡ counted_cells
  pub redone_at_lem : redone ≡ redone_at
  pub of_line : line ≡ line_length

pub record LengthsStated (table arena work draft : ℕ) : Type 0 where
  pub of_table : table ≡ table_length
  pub of_arena : arena ≡ arena_length
  pub of_work : work ≡ work_length
  pub of_draft : draft ≡ draft_length
