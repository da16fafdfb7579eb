-- The promise of recheck and recheck_numbered leaves nothing open: two outcomes of a call that keep it are the same, and so are two answers of
-- the code. Assumes nothing.
use mathlib.Core.Path.{◌≡◌, sym, ◌∙◌}
use Prim.Native.Nat.{ℕ}
use mathlib.Core.List.{List}
use Rattle.rules.specs.Table.{Result}
use Rattle.rules.specs.declared.Form.{Form}
use Rattle.std.specs.Prelude.{Result as Outcome}
use Rattle.rules.specs.declared.Fault.{Fault}
use Rattle.outcomes.specs.Outcomes.{outcome_of}
use Rattle.outcomes.proofs.Promises.{Same, called_unique, called_answer}
use Rattle.recheck_call.specs.Rechecked.{Rechecked}

module _ (form : Form) (oldText newText listing out : List ℕ) {draft old table arena work o d s t a w o' d' s' t' a' w' : List ℕ} where
  -- the outcome, the output and every scratch
  pub recheck_unique : {r r' : Result ℕ} → Rechecked form oldText newText listing out draft old table arena work o d s t a w r
      → Rechecked form oldText newText listing out draft old table arena work o' d' s' t' a' w' r' → Same o d t a w r o' d' t' a' w' r' × (s ≡ s')
  recheck_unique x y = (called_unique x.called y.called, x.old_zero.is ∙ sym y.old_zero.is)

  pub recheck_answer : {r r' : Outcome ℕ Fault} → Rechecked form oldText newText listing out draft old table arena work o d s t a w (outcome_of r)
      → Rechecked form oldText newText listing out draft old table arena work o' d' s' t' a' w' (outcome_of r') → Same o d t a w r o' d' t' a' w' r' × (s ≡ s')
  recheck_answer x y = (called_answer x.called y.called, x.old_zero.is ∙ sym y.old_zero.is)
