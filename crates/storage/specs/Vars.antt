-- What the functions of vars.rt ensure.
use Rattle.std.specs.Prelude.{◌≡◌, Bool, true, false, ℕ, ◌<◌, List, length}
use Rattle.rules.specs.Types.{State, Out, bind}
use Rattle.rules.specs.Canonicalizer.{variable, preserving, Reader}
use Rattle.rules.specs.Canonicalizer as rules
use Rattle.rules.specs.declared.Polarity.{Polarity}
use Rattle.lang_ty.specs.declared.arena.Pass.{Pass}
use Rattle.lang_ty.specs.Given.{Given}
use Rattle.lang_ty.specs.Nodes.{Stands, Answers}
use Rattle.storage.specs.declared.given.Canon.{Canon}
use Rattle.storage.specs.Passes.{Reps, Knows}

-- TyVar(rep)
pub record IsVariable (table : List ℕ) (c : Canon) (w : List ℕ) (q : Pass) (id : ℕ) (w' : List ℕ) (r : Given) : Type 0 where
  pub is : {p : rules.Pass} {st : State} → Reps table c p → Stands st w q → Answers (variable p id st) w' r

pub record IsPreserved (table : List ℕ) (c : Canon) (id : ℕ) (r : Bool) : Type 0 where
  pub is : {p : rules.Pass} {t : Reader} → Knows table c p t → id < c.count → r ≡ p.preserved (p.rep id)

-- the variable beside node x
pub record Beside (table : List ℕ) (c : Canon) (w : List ℕ) (q : Pass) (x id : ℕ) (pol : Polarity) (w' : List ℕ) (r : Given) : Type 0 where
  pub is : {p : rules.Pass} {st : State} → Reps table c p → Stands st w q → x < length st.nodes → Answers (preserving p id pol x st) w' r

-- what a variable's own rule comes to once its bounds are expanded
abbrev pub own_end : rules.Pass → ℕ → Polarity → Bool → Out ℕ → Out ℕ
own_end p id pol true o = bind o (preserving p id pol)
own_end p id pol false o = o

pub record Expanded (table : List ℕ) (c : Canon) (w : List ℕ) (g : Given) (id : ℕ) (pol : Polarity) (kept : Bool) (w' : List ℕ) (r : Given) : Type 0 where
  pub is : {p : rules.Pass} (o : Out ℕ) → Reps table c p → Answers o w g → Answers (own_end p id pol kept o) w' r
