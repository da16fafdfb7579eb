-- canon and canon_numbered with all scratch lent in full show what the rules' programs print. Assumes nothing.
use mathlib.Core.Path.{◌≡◌, subst}
use Prim.Native.Nat.{ℕ}
use native.Mathlib.Omega.{arith}
use mathlib.Core.List.{List}
use lib.ListN.{length}
use Rattle.layout.specs.Layout.{draft_length, table_length, arena_length, work_length}
use Rattle.rules.specs.Calls.{canon, canon_call, printed, canon_program}
use Rattle.rules.specs.declared.Form.{Form}
use Rattle.rules.specs.Table.{Result}
use Rattle.programs.specs.Shows.{Shows, ShowsOutcome}
use Rattle.programs.proofs.Showing.{call_shown, full}
use Rattle.canon_call.specs.Called.{Canon}
use Rattle.canon_call.specs.Program.{AnswersCanon}

pub canon_shown : (form : Form) (text out : List ℕ) {draft table arena work out₁ draft₁ table₁ arena₁ work₁ out' : List ℕ} {outcome : Result ℕ} {r : ℕ}
    → draft_length ≡ length draft → table_length ≡ length table → arena_length ≡ length arena → work_length ≡ length work
    → Canon form text out draft table arena work out₁ draft₁ table₁ arena₁ work₁ outcome → length out₁ ≡ length out → ShowsOutcome outcome out₁ out' r
    → AnswersCanon form text out out' r
unfolding canon_call canon_program
canon_shown form text out {out' = out'} {r = r} ed et ea ew c l w = record {
  is = λ e.
      subst (λ (n : ℕ). Shows (printed (canon form text n)) out' r) e
      (call_shown out (canon form text (length out)) _ (full (omega arith) (omega arith) (omega arith) (omega arith)) c.says (omega arith) w);
}
