-- What the programs canon and canon_numbered show, at the beginning of the output that they lend.
use Rattle.std.specs.Prelude.{◌≡◌, ℕ, List, length}
use Rattle.rules.specs.declared.Form.{Form}
use Rattle.rules.specs.Calls.{lent, canon_program}
use Rattle.programs.specs.Shows.{Shows}

-- "Both programs lend 65,536 bytes of output"
pub record AnswersCanon (form : Form) (text out out' : List ℕ) (r : ℕ) : Type 0 where
  pub is : length out ≡ lent → Shows (canon_program form text) out' r
