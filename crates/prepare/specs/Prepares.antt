-- A table that was read, prepared for its runs: what the functions ensure.
use Rattle.std.specs.Prelude.{◌≡◌, Bool, ℕ, ◌+◌, ◌≤◌, ◌<◌, List, [], ◌∷◌, length, drop, set, ltb}
use Rattle.cells.specs.Part.{run, cell, if, eq_list}
use Rattle.layout.specs.Layout.{marks_at, preserved_at, rows_at, table_length}
use Rattle.rules.specs.Plain.{ascii}
use Rattle.rules.specs.Table.{Root, accepted, table_of}
use Rattle.rules.specs.Table as rules
use Rattle.rules.specs.Canonicalizer.{reader_of, functor_number, first_pass}
use Rattle.laws.specs.Sound.{Tabled}
use Rattle.text.specs.Reads.{span}
use Rattle.table.specs.declared.Table.{Table}
use Rattle.std.specs.Prelude.{Ok}
use Rattle.table.specs.Rows.{Few, begin_at, row_at, Read}
use Rattle.storage.specs.Passes.{Knows}
use Rattle.storage.specs.Equivs.{Behind}
use Rattle.prepare.specs.declared.Prepared.{Prepared}

-- a count as a number of a row
pub record Number (n r : ℕ) : Type 0 where
  pub is : n < 4294967295 → r ≡ n

-- the places where the beginnings of entries, pairs, marks and roots stand
pub record FirstEntry (t : Table) (r : ℕ) : Type 0 where
  pub is : Few t → r ≡ rows_at + 1 + t.names

pub record FirstPair (t : Table) (r : ℕ) : Type 0 where
  pub is : Few t → r ≡ rows_at + 1 + t.names + t.entries

pub record FirstMark (t : Table) (r : ℕ) : Type 0 where
  pub is : Few t → r ≡ rows_at + 1 + t.names + t.entries + t.pairs

pub record FirstRoot (t : Table) (r : ℕ) : Type 0 where
  pub is : Few t → r ≡ rows_at + 1 + t.names + t.entries + t.pairs + t.marks

-- a one at the place of a marked id, if it is an entry's
abbrev pub mark : ℕ → List ℕ → ℕ → List ℕ
mark entries table id = if (ltb id entries) (λ _. set table (marks_at + id) 1) (λ _. table)

-- and of each of them
abbrev pub mark_all : ℕ → List ℕ → List ℕ → List ℕ
mark_all entries table [] = table
mark_all entries table (id ∷ ids) = mark_all entries (mark entries table id) ids

-- a mark's id is the second word of its row
abbrev pub marks_in : List ℕ → ℕ → ℕ → List ℕ
marks_in table first n = run (λ (i : ℕ). cell table (cell table i + 1)) first n

pub record SetsMark (table : List ℕ) (entries id : ℕ) (table' : List ℕ) : Type 0 where
  pub is : table' ≡ mark entries table id

-- the rows of marks lie after the cells that are set
pub record SetsMarks (table : List ℕ) (t : Table) (table' : List ℕ) : Type 0 where
  pub is : Few t → Behind table rows_at (rows_at + 1 + t.names + t.entries + t.pairs) t.marks
      → table' ≡ mark_all t.entries table (marks_in table (rows_at + 1 + t.names + t.entries + t.pairs) t.marks)

abbrev pub functor_name : List ℕ
functor_name = ascii "__functor"

pub record IsFunctor (table : List ℕ) (a e : ℕ) (r : Bool) : Type 0 where
  pub is : a ≤ table_length → r ≡ eq_list (drop 1 (span table a e)) functor_name

-- the names are the rows from row 1 on
pub record Functor (table : List ℕ) (names r : ℕ) : Type 0 where
  pub is : ((i : ℕ) → i ≤ names → begin_at table i ≤ table_length)
      → r ≡ functor_number (run (λ (i : ℕ). drop 1 (row_at table i)) 1 names)

-- the budget is the second word of row 0
pub record Budget (table : List ℕ) (r : ℕ) : Type 0 where
  pub is : begin_at table 0 ≤ table_length → r ≡ cell (row_at table 0) 1

-- a root's id and sign are the second and the third word of its row
abbrev pub root_at : List ℕ → ℕ → Root
root_at table i = record { id = cell table (cell table i + 1); sign = cell table (cell table i + 2) }

abbrev pub roots_in : List ℕ → ℕ → ℕ → List Root
roots_in table first n = run (root_at table) first n

-- what a table that was read is prepared as: what was read stands there still, with the facts and the pass that its runs rely on
pub record IsPrepared (text : List ℕ) (t : Table) (T : rules.Table) (table : List ℕ) (g : Prepared) : Type 0 where
  pub read : Read text table (Ok t)
  pub knows : Knows table g.canon (first_pass T) (reader_of T)
  pub tabled : Tabled (first_pass T) (reader_of T)
  pub none : (v : ℕ) → v < g.canon.count → cell table (preserved_at + v) ≡ 0
  pub base : g.canon.base ≡ rows_at + 1 + t.names
  pub first : g.first ≡ rows_at + 1 + t.names + t.entries + t.pairs + t.marks
  pub roots : g.roots ≡ t.roots
  pub rooted : T.roots ≡ roots_in table g.first g.roots
  pub known : (i : ℕ) → i < g.roots → cell table (cell table (g.first + i) + 1) < g.canon.count

pub record Prepares (table : List ℕ) (t : Table) (table' : List ℕ) (r : Prepared) : Type 0 where
  pub is : (text : List ℕ) (T : rules.Table) → Read text table (Ok t) → table_of text ≡ accepted T → table_length ≤ length table
      → ((k : ℕ) → k < rows_at → cell table k ≡ 0) → IsPrepared text t T table' r
