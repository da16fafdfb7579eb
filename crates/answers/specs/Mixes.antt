-- What the old table's slice tells of the roots, and the lines that are written of it: what the functions of mixed.rt ensure.
use Rattle.std.specs.Borrow.{Bor}
use Rattle.std.specs.Prelude.{◌≡◌, Bool, true, false, not, Option, Some, None, ℕ, ◌+◌, ◌*◌, ◌≤◌, ◌<◌, List, [], ◌∷◌, ◌++◌, length, get_or, eqb}
use Rattle.cells.specs.Part.{if, cell, run}
use Rattle.layout.specs.Layout.{redone_at}
use Rattle.rules.specs.Plain.{flag, both, joined}
use Rattle.rules.specs.Ceilings.{most_text, most_roots}
use Rattle.rules.specs.Text.{tab}
use Rattle.rules.specs.Table.{root_of}
use Rattle.rules.specs.Table as rules
use Rattle.rules.specs.Listing.{root_text_of, answers_text}
use Rattle.rules.specs.declared.Form.{Form}
use Rattle.rules.specs.Calls.{redone, redone_word}
use Rattle.laws.specs.Sound.{most_root_text}
use Rattle.text.specs.Reads.{span, span_at}
use Rattle.prepare.specs.declared.Prepared.{Prepared}
use Rattle.prepare.specs.Prepares.{root_at}
use Rattle.listing.specs.Writes.{Wrote}
use Rattle.answers.specs.Runs.{Running, Bounded}

-- the old lines of n roots, each a part of the listing that begins and ends where the slice tells
pub record OldLines (listing : List ℕ) (texts : List (List ℕ)) (old : List ℕ) (n : ℕ) : Type 0 where
  pub are : run (span_at listing old) 0 n ≡ texts
  pub within : (i : ℕ) → i < n → cell old (i + 1) ≤ length listing
  pub short : length listing ≤ most_text

-- and which roots are redone
pub record Noted (T₁ T₂ : rules.Table) (listing : List ℕ) (texts : List (List ℕ)) (old : List ℕ) (n : ℕ) : Type 0 where
  pub lines : OldLines listing texts old n
  pub flags : (i : ℕ) → i < n → cell old (redone_at + i) ≡ flag (redone T₁ T₂ (get_or T₂.roots i (root_of [])))

-- root i keeps its old lines: none does in a text that is not mixed
abbrev pub kept_at : List ℕ → Bool → ℕ → Bool
kept_at old mixed i = both mixed (λ _. eqb (cell old (redone_at + i)) 0)

-- what is known of the old listing: a slice, in a text that is mixed
abbrev pub slice_of : Option (Bor (List ℕ)) → List ℕ
slice_of None = []
slice_of (Some s) = s.now

abbrev pub is_given : Option (Bor (List ℕ)) → Bool
is_given None = false
is_given (Some s) = true

pub record IsKept (old : List ℕ) (mixed : Bool) (i : ℕ) (r : Bool) : Type 0 where
  pub is : r ≡ kept_at old mixed i

-- the slice, if root i keeps its old lines
pub record Keeps (old : Option (Bor (List ℕ))) (i : ℕ) (r : Option (Bor (List ℕ))) : Type 0 where
  pub some : {s : Bor (List ℕ)} → r ≡ Some s → (kept_at (slice_of old) (is_given old) i ≡ true) × (s.now ≡ slice_of old)
  pub none : r ≡ None → kept_at (slice_of old) (is_given old) i ≡ false

-- a tab before each word but the first
abbrev pub tab_before : ℕ → List ℕ
tab_before i = if (eqb i 0) (λ _. []) (λ _. tab ∷ [])

-- `kept` or `redone`
abbrev pub word_at : List ℕ → ℕ → List ℕ
word_at old i = redone_word (not (kept_at old true i))

-- the bytes of the listing between two places
pub record WritesOld (listing : List ℕ) (from to p : ℕ) (o o' : List ℕ) (r : ℕ) : Type 0 where
  pub is : to ≤ length listing → Wrote (span listing from to) p o o' r

-- lines that are kept lie in the listing, which is short
pub record Lying (listing old : List ℕ) (mixed : Bool) (n : ℕ) : Type 0 where
  pub is : (i : ℕ) → i < n → kept_at old mixed i ≡ true → (cell old (i + 1) ≤ length listing) × (length listing ≤ most_text)

-- the lines of root i: the old ones if it is kept, those that the table gives if not
abbrev pub lines_at : List ℕ → List ℕ → Bool → Form → rules.Table → List ℕ → ℕ → ℕ → List ℕ
lines_at listing old mixed form T table first i =
    if (kept_at old mixed i) (λ _. span_at listing old i) (λ _. root_text_of form T (root_at table (first + i)))

pub record WritesNext (listing old : List ℕ) (mixed : Bool) (table : List ℕ) (g : Prepared) (arena work : List ℕ) (form : Form) (p i : ℕ)
    (o table' o' : List ℕ) (r : ℕ) : Type 0 where
  pub is : {T : rules.Table} → Running T g table arena work → Lying listing old mixed g.roots → i < g.roots
      → Bounded most_root_text (lines_at listing old mixed form T table g.first i) p o o' r
  pub kept : {T : rules.Table} → Running T g table arena work → table' ≡ table

-- the line `answers`, the line `numbered` if the variables are, and the lines of all roots
abbrev pub all_lines : List ℕ → List ℕ → Bool → Form → rules.Table → List ℕ → Prepared → List ℕ
all_lines listing old mixed form T table g =
    answers_text form g.roots ++ joined (run (lines_at listing old mixed form T table g.first) 0 g.roots)

pub record WritesRoots (listing old : List ℕ) (mixed : Bool) (table : List ℕ) (g : Prepared) (arena work : List ℕ) (form : Form) (p : ℕ)
    (o table' o' : List ℕ) (r : ℕ) : Type 0 where
  pub is : {T : rules.Table} → Running T g table arena work → Lying listing old mixed g.roots
      → Bounded (most_root_text + most_roots * most_root_text) (all_lines listing old mixed form T table g) p o o' r
  pub kept : {T : rules.Table} → Running T g table arena work → Lying listing old mixed g.roots → table' ≡ table
