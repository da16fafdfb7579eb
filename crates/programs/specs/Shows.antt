-- What is to be shown: the bytes that a program prints, at the beginning of the lent output.
use Rattle.std.specs.Prelude.{◌≡◌, ℕ, ◌≤◌, List, length, take}
use Rattle.rules.specs.Table.{Result}
use Rattle.rules.specs.Calls.{leaves, printed, lent}
use Rattle.outcomes.specs.Outcomes.{Says}

-- the first r bytes of the output are this text
pub record Shows (text out' : List ℕ) (r : ℕ) : Type 0 where
  pub size : r ≡ length text
  pub is : take r out' ≡ text

-- what is made of a call's outcome, where the call did what the rules say: the text that it wrote, or the line of its refusal
pub record ShowsOutcome (outcome : Result ℕ) (out out' : List ℕ) (r : ℕ) : Type 0 where
  pub is : (found : List ℕ) (x : Result (List ℕ)) → Says (leaves found x) out outcome → lent ≤ length out → Shows (printed x) out' r
