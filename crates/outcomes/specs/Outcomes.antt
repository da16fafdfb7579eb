-- What every public call promises.
use Rattle.std.specs.Prelude.{◌≡◌, Bool, true, ℕ, ◌≤◌, List, ◌++◌, length, replicate, take, drop, ltb, Result as Outcome, Ok, Err}
use Rattle.cells.specs.Part.{if}
use Rattle.layout.specs.Layout.{draft_length, table_length, work_length}
use Rattle.rules.specs.Table.{Result, accepted, refused}
use Rattle.rules.specs.Calls.{Left}
use Rattle.rules.specs.Refusals.{number}
use Rattle.rules.specs.declared.Fault.{Fault}

-- 20: "a lent scratch is shorter than the length docs/ states for it"; least is what is stated for the arena
unfoldable pub is_short : ℕ → ℕ → ℕ → ℕ → ℕ → Bool
is_short draft table arena least work =
    if (ltb draft draft_length) (λ _. true)
    (λ _. if (ltb table table_length) (λ _. true)
    (λ _. if (ltb arena least) (λ _. true)
    (λ _. ltb work work_length)))

pub record Short (draft table arena least work : ℕ) (b : Bool) : Type 0 where
  pub is : b ≡ is_short draft table arena least work

-- what is copied, is there, and there is room for it
pub record Fits (out draft : List ℕ) (n : ℕ) : Type 0 where
  pub room : n ≤ length out
  pub long : n ≤ length draft

-- the first n bytes of the draft, and after them what stood there
pub record Copies (out draft : List ℕ) (n : ℕ) (out' : List ℕ) : Type 0 where
  pub is : out' ≡ take n draft ++ drop n out

-- what a call comes to, as the rules have it: so many bytes written, or a refusal with number and line
abbrev pub outcome_of : Outcome ℕ Fault → Result ℕ
outcome_of (Ok n) = accepted n
outcome_of (Err f) = refused (number f.refusal) f.line

-- a call that comes to this outcome and leaves this output does what the rules say
pub record Says (l : Left) (out' : List ℕ) (r : Result ℕ) : Type 0 where
  pub outcome : r ≡ l.outcome
  pub output : out' ≡ l.output

-- "scratch is zero at every return"
pub record Zero (s s' : List ℕ) : Type 0 where
  pub is : s' ≡ replicate (length s) 0

-- the scratch that each call is lent
pub record Wiped (draft table arena work draft' table' arena' work' : List ℕ) : Type 0 where
  pub draft_zero : Zero draft draft'
  pub table_zero : Zero table table'
  pub arena_zero : Zero arena arena'
  pub work_zero : Zero work work'

-- a call comes to what the rules say, and leaves the output that they say, and the scratch is zero
pub record Called (l : Left) (draft table arena work out' draft' table' arena' work' : List ℕ) (r : Result ℕ) : Type 0 where
  pub says : Says l out' r
  pub wiped : Wiped draft table arena work draft' table' arena' work'
