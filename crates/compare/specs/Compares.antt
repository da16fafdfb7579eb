-- Two tables side by side, row by row: what the functions ensure.
use Rattle.std.specs.Prelude.{◌≡◌, Bool, ℕ, ◌+◌, ◌≤◌, List, drop, eqb}
use Rattle.cells.specs.Part.{run, cell, part, eq_list}
use Rattle.rules.specs.Plain.{both}
use Rattle.rules.specs.Table.{accepted, table_of}
use Rattle.rules.specs.Table as rules
use Rattle.rules.specs.Calls.{same, comparable}
use Rattle.text.specs.Reads.{span}
use Rattle.table.specs.declared.Table.{Table}
use Rattle.std.specs.Prelude.{Ok}
use Rattle.table.specs.Rows.{Read}

pub record SameCells (s : List ℕ) (a : ℕ) (w : List ℕ) (b n : ℕ) (r : Bool) : Type 0 where
  pub is : r ≡ eq_list (part s a n) (part w b n)

pub record SameSpans (s : List ℕ) (a e : ℕ) (w : List ℕ) (b f : ℕ) (r : Bool) : Type 0 where
  pub is : r ≡ eq_list (span s a e) (span w b f)

-- the row whose beginning is told at p
abbrev pub row_from : List ℕ → ℕ → List ℕ
row_from w p = span w (cell w p) (cell w (p + 1))

-- and what stands in it after the number of its kind
abbrev pub words_from : List ℕ → ℕ → List ℕ
words_from w p = drop 1 (row_from w p)

-- whether the row whose beginning is told at p is the same in both tables
pub record SameRow (old table : List ℕ) (p : ℕ) (r : Bool) : Type 0 where
  pub is : r ≡ eq_list (row_from old p) (row_from table p)

pub record SameWords (old table : List ℕ) (p : ℕ) (r : Bool) : Type 0 where
  pub is : r ≡ eq_list (words_from old p) (words_from table p)

-- of the n rows whose beginnings are told from p on
pub record SameRows (old table : List ℕ) (p n : ℕ) (r : Bool) : Type 0 where
  pub is : p + n ≤ 4294967295 → r ≡ same eq_list (run (words_from old) p n) (run (words_from table) p n)

pub record SameCounts (u t : Table) (r : Bool) : Type 0 where
  pub is : r ≡ both (eqb u.names t.names)
      (λ _. both (eqb u.entries t.entries)
      (λ _. both (eqb u.pairs t.pairs)
      (λ _. both (eqb u.marks t.marks) (λ _. eqb u.roots t.roots))))

-- not 10, of two tables that were read
pub record Comparable (old : List ℕ) (u : Table) (table : List ℕ) (t : Table) (r : Bool) : Type 0 where
  pub is : {text₁ text₂ : List ℕ} {T₁ T₂ : rules.Table} → Read text₁ old (Ok u) → table_of text₁ ≡ accepted T₁
      → Read text₂ table (Ok t) → table_of text₂ ≡ accepted T₂ → r ≡ comparable T₁ T₂
