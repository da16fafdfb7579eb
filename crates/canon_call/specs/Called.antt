-- What canon, canon_numbered and canon_root promise: the outcome, the output, and every lent cell. And what the functions on the way ensure.
use Rattle.std.specs.Prelude.{◌≡◌, Bool, false, ℕ, List, length, leb}
use Rattle.layout.specs.Layout.{arena_length}
use Rattle.rules.specs.Table.{Result}
use Rattle.rules.specs.declared.Form.{Form}
use Rattle.rules.specs.Calls.{canon, canon_root, leaves, unless_short, canon_call, canon_root_call}
use Rattle.table.specs.declared.Table.{Table}
use Rattle.outcomes.specs.Outcomes.{is_short, Says, Called}
use Rattle.answers.specs.declared.asked.Asked.{Asked}
use Rattle.answers.specs.declared.asked.Asked.TheVariants.{All, Root, Mixed}

-- an id that is asked for is none of n entries
abbrev pub no_entry : ℕ → Asked → Bool
no_entry n (All form) = false
no_entry n (Root id s) = leb n id
no_entry n (Mixed form) = false

pub record IsNoEntry (t : Table) (asked : Asked) (r : Bool) : Type 0 where
  pub is : r ≡ no_entry t.entries asked

-- what is asked of a text, as the rules have it; recheck's text is not asked of one table
abbrev pub CallOf : Asked → List ℕ → ℕ → Result (List ℕ) → Type 0
CallOf (All form) text room x = x ≡ canon form text room
CallOf (Root id s) text room x = x ≡ canon_root text id s room
CallOf (Mixed form) text room x = ⊥

-- 20 for canon, canon_numbered and canon_root
abbrev pub canon_short : List ℕ → List ℕ → List ℕ → List ℕ → Bool
canon_short draft table arena work = is_short (length draft) (length table) (length arena) arena_length (length work)

pub record Answers (text : List ℕ) (asked : Asked) (out draft table arena work out' : List ℕ) (r : Result ℕ) : Type 0 where
  pub is : (x : Result (List ℕ)) → CallOf asked text (length out) x → Says (leaves out (unless_short (canon_short draft table arena work) x)) out' r

pub record Calls (text : List ℕ) (asked : Asked) (out draft table arena work out' draft' table' arena' work' : List ℕ) (r : Result ℕ) : Type 0 where
  pub is : (x : Result (List ℕ)) → CallOf asked text (length out) x
      → Called (leaves out (unless_short (canon_short draft table arena work) x)) draft table arena work out' draft' table' arena' work' r

-- what is promised of canon, which gives a plain listing, and of canon_numbered
abbrev pub Canon : Form → List ℕ → List ℕ → List ℕ → List ℕ → List ℕ → List ℕ → List ℕ → List ℕ → List ℕ → List ℕ → List ℕ → Result ℕ → Type 0
Canon form text out draft table arena work out' draft' table' arena' work' r =
    Called (canon_call form text out (canon_short draft table arena work)) draft table arena work out' draft' table' arena' work' r

-- and of canon_root
abbrev pub CanonRoot : List ℕ → ℕ → ℕ → List ℕ → List ℕ → List ℕ → List ℕ → List ℕ → List ℕ → List ℕ → List ℕ → List ℕ → List ℕ → Result ℕ → Type 0
CanonRoot text id sign out draft table arena work out' draft' table' arena' work' r =
    Called (canon_root_call text id sign out (canon_short draft table arena work)) draft table arena work out' draft' table' arena' work' r
