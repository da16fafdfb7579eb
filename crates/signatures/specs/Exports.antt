-- What the exports answer: a call's outcome as one number, that tells this outcome and no other.
use Rattle.std.specs.Prelude.{◌≡◌, ℕ, ◌+◌, ◌*◌, ◌/◌, ◌%◌, ◌≤◌, ltb, Result as Outcome, Ok, Err}
use Rattle.cells.specs.Part.{if}
use Rattle.rules.specs.Text.{greatest}
use Rattle.rules.specs.Table.{Result, accepted, refused}
use Rattle.rules.specs.Refusals.{number}
use Rattle.rules.specs.declared.Fault.{Fault}
use Rattle.signatures.specs.declared.Refused.{Refused}

-- one more than a number of 32 bits can be
abbrev pub upper : ℕ
upper = 4294967296

-- the length written, or a refusal's number above its line
abbrev pub code_of : Result ℕ → ℕ
code_of (accepted n) = n
code_of (refused k l) = k * upper + l

-- the outcome that a number tells
abbrev pub told_by : ℕ → Result ℕ
told_by c = if (ltb c upper) (λ _. accepted c) (λ _. refused (c / upper) (c % upper))

-- a refusal of a call, by its number
abbrev pub refused_by : Fault → Refused
refused_by f = record { number = number f.refusal; line = f.line }

-- an outcome whose refusal has any number, as the rules have it
abbrev pub outcome_by : Outcome ℕ Refused → Result ℕ
outcome_by (Ok n) = accepted n
outcome_by (Err r) = refused r.number r.line

-- each part of an outcome is a number of 32 bits
abbrev pub Numbered : Result ℕ → Type 0
Numbered (accepted n) = n ≤ greatest
Numbered (refused k l) = (k ≤ greatest) × (l ≤ greatest)

pub record Code (outcome : Result ℕ) (r : ℕ) : Type 0 where
  pub is : r ≡ code_of outcome
  pub numbered : Numbered outcome

-- what a call promises of its outcome holds of the outcome that the number tells
pub record Exported (Promised : Result ℕ → Type 0) (c : ℕ) : Type 0 where
  pub promised : Promised (told_by c)
