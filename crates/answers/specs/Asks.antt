-- What is asked of a table, and the text of it: what the functions of asked.rt ensure.
use Rattle.std.specs.Prelude.{◌≡◌, ℕ, ◌<◌, List, length}
use Rattle.rules.specs.Table.{Result}
use Rattle.rules.specs.Table as rules
use Rattle.rules.specs.Listing.{root_text, listing_text}
use Rattle.rules.specs.declared.Form.{Form}
use Rattle.rules.specs.declared.Form.TheVariants.{Plain}
use Rattle.rules.specs.Calls.{fits, recheck_text, leaves}
use Rattle.prepare.specs.declared.Prepared.{Prepared}
use Rattle.listing.specs.Writes.{over}
use Rattle.answers.specs.declared.asked.Asked.{Asked}
use Rattle.answers.specs.declared.asked.Asked.TheVariants.{All, Root, Mixed}
use Rattle.outcomes.specs.Outcomes.{Says}
use Rattle.answers.specs.Runs.{Running}
use Rattle.answers.specs.Mixes.{Noted}

-- recheck's text for a new table, by what the slice of the old one tells
pub record MixedText (form : Form) (T : rules.Table) (listing old : List ℕ) (n : ℕ) (t : List ℕ) : Type 0 where
  pub before : rules.Table
  pub texts : List (List ℕ)
  pub noted : Noted before T listing texts old n
  pub is : t ≡ recheck_text form before T texts

-- t is the text that is asked for
abbrev pub AskedText : rules.Table → List ℕ → List ℕ → Prepared → Asked → List ℕ → Type 0
AskedText T listing old g (All form) t = t ≡ listing_text form T
AskedText T listing old g (Root id s) t = (id < g.canon.count) × (t ≡ root_text Plain T id s)
AskedText T listing old g (Mixed form) t = MixedText form T listing old g.roots t

-- t was written from the beginning of o on, and r is its length
pub record Text (t o o' : List ℕ) (r : ℕ) : Type 0 where
  pub size : r ≡ length t
  pub is : o' ≡ over o 0 t

pub record WritesAsked (listing old table : List ℕ) (g : Prepared) (arena work : List ℕ) (asked : Asked) (o table' o' : List ℕ) (r : ℕ) : Type 0 where
  pub is : {T : rules.Table} (t : List ℕ) → Running T g table arena work → AskedText T listing old g asked t → Text t o o' r
  pub kept : {T : rules.Table} (t : List ℕ) → Running T g table arena work → AskedText T listing old g asked t → table' ≡ table

-- the text stands in the output if it fits, and the call comes to its length, or to 12
pub record Delivers (listing out old table : List ℕ) (g : Prepared) (arena work : List ℕ) (asked : Asked) (out' : List ℕ) (r : Result ℕ) : Type 0 where
  pub is : {T : rules.Table} (t : List ℕ) → Running T g table arena work → AskedText T listing old g asked t → Says (leaves out (fits (length out) t)) out' r
