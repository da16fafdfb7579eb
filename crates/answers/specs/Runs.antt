-- A table that is prepared, and a root of it, run: what the functions of roots.rt ensure.
use Rattle.std.specs.Prelude.{◌≡◌, ℕ, ◌≤◌, ◌<◌, List, length}
use Rattle.cells.specs.Part.{cell}
use Rattle.layout.specs.Layout.{rows_at}
use Rattle.rules.specs.Table.{accepted, table_of}
use Rattle.rules.specs.Table as rules
use Rattle.rules.specs.Types.{polarity_of}
use Rattle.laws.specs.Sound.{most_root_text}
use Rattle.rules.specs.Listing.{root_text}
use Rattle.rules.specs.declared.Form.{Form}
use Rattle.rules.specs.declared.Polarity.{Polarity}
use Rattle.table.specs.declared.Table.{Table}
use Rattle.std.specs.Prelude.{Ok}
use Rattle.table.specs.Rows.{Read}
use Rattle.prepare.specs.declared.Prepared.{Prepared}
use Rattle.prepare.specs.Prepares.{IsPrepared}
use Rattle.lang_check.specs.Roots.{LentTo}
use Rattle.listing.specs.Writes.{Wrote}

pub record PolarityIs (sign : ℕ) (r : Polarity) : Type 0 where
  pub is : r ≡ polarity_of sign

-- what a run relies on, before the first root and between two: the table of the rules as it was prepared, and slices that are long enough.
-- What a run left in the arena and the working slice matters to none after it
pub record Running (T : rules.Table) (g : Prepared) (table arena work : List ℕ) : Type 0 where
  pub text : List ℕ
  pub counts : Table
  pub prepared : IsPrepared text counts T table g
  pub lent : LentTo table arena work

-- a text of so many bytes at most, written from p on
pub record Bounded (most : ℕ) (t : List ℕ) (p : ℕ) (o o' : List ℕ) (r : ℕ) : Type 0 where
  pub wrote : Wrote t p o o' r
  pub short : length t ≤ most

-- the lines of one root, written from p on
pub record WritesRoot (table : List ℕ) (g : Prepared) (arena work : List ℕ) (form : Form) (p id sign : ℕ) (o table' o' : List ℕ) (r : ℕ) : Type 0 where
  pub is : {T : rules.Table} → Running T g table arena work → id < g.canon.count → Bounded most_root_text (root_text form T id sign) p o o' r
  pub kept : {T : rules.Table} → Running T g table arena work → table' ≡ table

-- the rows of a table that was accepted stand in its slice, and its facts are zero
pub record Fresh (T : rules.Table) (t : Table) (table arena work : List ℕ) : Type 0 where
  pub text : List ℕ
  pub is : table_of text ≡ accepted T
  pub read : Read text table (Ok t)
  pub zeros : (k : ℕ) → k < rows_at → cell table k ≡ 0
  pub lent : LentTo table arena work
