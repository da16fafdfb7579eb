-- What a step of a pass comes to.
use Rattle.std.specs.Prelude.{ℕ, Result, Ok, Err}
use Rattle.rules.specs.Refusals.{number}
use Rattle.rules.specs.declared.Refusal.{Refusal}
use Rattle.lang_ty.specs.declared.arena.Pass.{Pass}

-- a node with the pass after it, or the number of a refusal
pub data Given : Type 0 where
  Node : ℕ → Pass → Given
  Refused : ℕ → Given

-- what the code answers, with the pass after it
abbrev pub given : Result ℕ Refusal → Pass → Given
given (Ok x) q = Node x q
given (Err k) q = Refused (number k)
