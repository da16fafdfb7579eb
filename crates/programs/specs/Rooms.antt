-- How much of an input a program has to read: what it prints of so many first bytes, it prints of the whole.
use Rattle.std.specs.Prelude.{◌≡◌, ℕ, List, take}
use Rattle.rules.specs.declared.Form.{Form}
use Rattle.rules.specs.Calls.{canon_program, recheck_program}

-- n bytes of a table are enough
pub record CanonReads (n : ℕ) : Type 0 where
  pub is : (form : Form) (input : List ℕ) → canon_program form (take n input) ≡ canon_program form input

-- n bytes of two tables and an old listing are enough
pub record RecheckReads (n : ℕ) : Type 0 where
  pub is : (form : Form) (input : List ℕ) → recheck_program form (take n input) ≡ recheck_program form input
