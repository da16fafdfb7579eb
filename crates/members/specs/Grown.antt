-- What a step that makes a list longer comes to.
use Rattle.std.specs.Prelude.{ℕ, Result, Ok, Err}
use Rattle.rules.specs.Refusals.{number}
use Rattle.rules.specs.declared.Refusal.{Refusal}
use Rattle.lang_ty.specs.declared.arena.Pass.{Pass}

-- how long the list is then, with the pass after it, or the number of a refusal
pub data Grown : Type 0 where
  On : ℕ → Pass → Grown
  Refused : ℕ → Grown

abbrev pub grown : Result ℕ Refusal → Pass → Grown
grown (Ok k) q = On k q
grown (Err k) q = Refused (number k)
