-- What a root is answered with.
use Rattle.std.specs.Prelude.{ℕ, Result, Ok, Err}
use Rattle.rules.specs.Refusals.{number}
use Rattle.rules.specs.declared.Refusal.{Refusal}
use Rattle.lang_ty.specs.declared.arena.Shown.{Shown as Counted}

-- what is shown of it, or the number of a refusal
pub data RootAnswer : Type 0 where
  Shown : Counted → RootAnswer
  Refused : ℕ → RootAnswer

abbrev pub root_answer : Result Counted Refusal → RootAnswer
root_answer (Ok s) = Shown s
root_answer (Err k) = Refused (number k)
