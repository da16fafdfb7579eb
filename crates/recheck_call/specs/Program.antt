-- What the programs recheck and recheck_numbered show, at the beginning of the output that they lend.
use Rattle.std.specs.Prelude.{◌≡◌, ℕ, List, length}
use Rattle.rules.specs.declared.Form.{Form}
use Rattle.rules.specs.Calls.{recheck, printed, lent, recheck_program}
use Rattle.programs.specs.Shows.{Shows}

-- "Both programs lend 65,536 bytes of output"
pub record AnswersRecheck (form : Form) (old new listing out out' : List ℕ) (r : ℕ) : Type 0 where
  pub is : length out ≡ lent → Shows (printed (recheck form old new listing lent)) out' r

pub record AnswersParts (form : Form) (input out out' : List ℕ) (r : ℕ) : Type 0 where
  pub is : length out ≡ lent → Shows (recheck_program form input) out' r
