-- The promises of canon, canon_numbered and canon_root leave nothing open: two outcomes of a call that keep them are the same, and so are two
-- answers of the code. Assumes nothing.
use Prim.Native.Nat.{ℕ}
use mathlib.Core.List.{List}
use Rattle.rules.specs.Table.{Result}
use Rattle.rules.specs.declared.Form.{Form}
use Rattle.std.specs.Prelude.{Result as Outcome}
use Rattle.rules.specs.declared.Fault.{Fault}
use Rattle.outcomes.specs.Outcomes.{outcome_of}
use Rattle.outcomes.proofs.Promises.{Same, called_unique, called_answer}
use Rattle.canon_call.specs.Called.{Canon, CanonRoot}

module _ {draft table arena work o d t a w o' d' t' a' w' : List ℕ} {r r' : Result ℕ} where
  pub canon_unique : (form : Form) (text out : List ℕ) → Canon form text out draft table arena work o d t a w r → Canon form text out draft table arena work o' d' t' a' w' r'
      → Same o d t a w r o' d' t' a' w' r'
  canon_unique form text out x y = called_unique x y

  pub canon_root_unique : (text : List ℕ) (id sign : ℕ) (out : List ℕ) → CanonRoot text id sign out draft table arena work o d t a w r
      → CanonRoot text id sign out draft table arena work o' d' t' a' w' r' → Same o d t a w r o' d' t' a' w' r'
  canon_root_unique text id sign out x y = called_unique x y

module _ {draft table arena work o d t a w o' d' t' a' w' : List ℕ} {r r' : Outcome ℕ Fault} where
  pub canon_answer : (form : Form) (text out : List ℕ) → Canon form text out draft table arena work o d t a w (outcome_of r) → Canon form text out draft table arena work o' d' t' a' w' (outcome_of r')
      → Same o d t a w r o' d' t' a' w' r'
  canon_answer form text out x y = called_answer x y

  pub canon_root_answer : (text : List ℕ) (id sign : ℕ) (out : List ℕ) → CanonRoot text id sign out draft table arena work o d t a w (outcome_of r)
      → CanonRoot text id sign out draft table arena work o' d' t' a' w' (outcome_of r') → Same o d t a w r o' d' t' a' w' r'
  canon_root_answer text id sign out x y = called_answer x y
