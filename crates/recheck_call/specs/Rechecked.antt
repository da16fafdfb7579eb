-- What recheck and recheck_numbered promise: the outcome, the output, and every lent cell. And what the functions on the way ensure.
use Rattle.std.specs.Prelude.{◌≡◌, Bool, true, ℕ, ◌≤◌, List, length, ltb}
use Rattle.cells.specs.Part.{if}
use Rattle.layout.specs.Layout.{table_length, line_length}
use Rattle.rules.specs.Plain.{unless}
use Rattle.rules.specs.Table.{Result, accepted, refused, then, table_of}
use Rattle.rules.specs.Table as rules
use Rattle.rules.specs.Listing.{old_listing}
use Rattle.rules.specs.declared.Form.{Form}
use Rattle.rules.specs.Calls.{fits, comparable, recheck_text, leaves, recheck_call}
use Rattle.table.specs.declared.Table.{Table}
use Rattle.std.specs.Prelude.{Ok}
use Rattle.table.specs.Rows.{Read}
use Rattle.outcomes.specs.Outcomes.{is_short, Says, Zero, Called}
use Rattle.answers.specs.Runs.{Fresh}

-- 20 for both: an old table, and what canon is lent, with an arena that takes a line of an old listing
abbrev pub recheck_short : List ℕ → List ℕ → List ℕ → List ℕ → List ℕ → Bool
recheck_short draft old table arena work =
    if (ltb (length old) table_length) (λ _. true) (λ _. is_short (length draft) (length table) (length arena) line_length (length work))

-- the rows of an old table that was accepted stand in its slice
pub record Before (T : rules.Table) (u : Table) (old : List ℕ) : Type 0 where
  pub text : List ℕ
  pub is : table_of text ≡ accepted T
  pub read : Read text old (Ok u)
  pub long : table_length ≤ length old

-- what is made of two tables that were accepted, as the rules have it
abbrev pub recheck_of : Form → rules.Table → rules.Table → List ℕ → ℕ → Result (List ℕ)
recheck_of form T₁ T₂ listing room =
    unless (comparable T₁ T₂) (λ _. refused 10 0)
    (λ _. then (old_listing form (length T₂.names) T₂.roots listing) (λ (texts : List (List ℕ)). fits room (recheck_text form T₁ T₂ texts)))

pub record ComparesBoth (form : Form) (listing out old : List ℕ) (u : Table) (table : List ℕ) (t : Table) (arena work out' : List ℕ) (r : Result ℕ) : Type 0 where
  pub is : {T₁ T₂ : rules.Table} → Before T₁ u old → Fresh T₂ t table arena work → line_length ≤ length arena
      → Says (leaves out (recheck_of form T₁ T₂ listing (length out))) out' r

pub record Answers (form : Form) (oldText newText listing out draft old table arena work out' : List ℕ) (r : Result ℕ) : Type 0 where
  pub is : Says (recheck_call form oldText newText listing out (recheck_short draft old table arena work)) out' r

-- what is promised of recheck, whose listings are plain, and of recheck_numbered
pub record Rechecked (form : Form) (oldText newText listing out draft old table arena work out' draft' old' table' arena' work' : List ℕ) (r : Result ℕ) : Type 0 where
  pub called : Called (recheck_call form oldText newText listing out (recheck_short draft old table arena work))
      draft table arena work out' draft' table' arena' work' r
  pub old_zero : Zero old old'
