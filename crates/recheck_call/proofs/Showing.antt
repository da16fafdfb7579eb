-- recheck with all scratch lent in full, on the three parts of an input, shows what the rules' program prints. Assumes nothing.
use mathlib.Core.Path.{◌≡◌, sym, ap, ap₂, subst, ◌∙◌}
use mathlib.Core.Bool.{false}
use Prim.Native.Nat.{ℕ, ◌-◌}
use native.Mathlib.Omega.{arith}
use mathlib.Core.List.{List}
use lib.ListN.{length, take, drop}
use lib.Seq.{slice}
use borrow.Author.Tests.{le-ltb}
use Rattle.layout.specs.Layout.{draft_length, table_length, line_length, work_length}
use Rattle.rules.specs.Table.{Result}
use Rattle.rules.specs.Calls.{recheck, recheck_call, Split, split_next, printed, lent, recheck_parts, recheck_program}
use Rattle.programs.specs.declared.Part.{Part}
use Rattle.rules.specs.declared.Form.{Form}
use Rattle.programs.specs.Shows.{Shows, ShowsOutcome}
use Rattle.programs.specs.Parts.{behind_of, Behind, UntilNext}
use Rattle.programs.proofs.Cutting.{rest_whole, part_slice}
use Rattle.programs.proofs.Showing.{call_shown, full}
use Rattle.recheck_call.specs.Rechecked.{recheck_short, Rechecked}
use Rattle.recheck_call.specs.Program.{AnswersRecheck, AnswersParts}

recheck_full : (draft old table arena work : List ℕ) → draft_length ≡ length draft → table_length ≡ length old → table_length ≡ length table
    → line_length ≡ length arena → work_length ≡ length work → recheck_short draft old table arena work ≡ false
recheck_full draft old table arena work ed eo et ea ew =
    rw (le-ltb (length old) table_length (omega arith)) (full (omega arith) (omega arith) (omega arith) (omega arith))

pub recheck_shown : (form : Form) (oldText newText listing out : List ℕ)
    {draft old table arena work out₁ draft₁ old₁ table₁ arena₁ work₁ out' : List ℕ} {outcome : Result ℕ} {r : ℕ}
    → draft_length ≡ length draft → table_length ≡ length old → table_length ≡ length table → line_length ≡ length arena → work_length ≡ length work
    → Rechecked form oldText newText listing out draft old table arena work out₁ draft₁ old₁ table₁ arena₁ work₁ outcome → length out₁ ≡ length out
    → ShowsOutcome outcome out₁ out' r → AnswersRecheck form oldText newText listing out out' r
unfolding recheck_call
recheck_shown form oldText newText listing out {draft} {old} {table} {arena} {work} {out' = out'} {r = r} ed eo et ea ew c l w = record {
  is = λ e.
      subst (λ (n : ℕ). Shows (printed (recheck form oldText newText listing n)) out' r) e
      (call_shown out (recheck form oldText newText listing (length out)) _ (recheck_full draft old table arena work ed eo et ea ew) c.called.says (omega arith) w);
}

-- recheck's three parts, as the code has them
parts_are : (form : Form) (input : List ℕ) {p q : Part} {a b : ℕ} → UntilNext input 0 p → Behind (length input) p.to a → UntilNext input a q
    → Behind (length input) q.to b → recheck_parts form (split_next input)
    ≡ recheck form (take p.to input) (take (q.to - q.from) (drop q.from input)) (take (length input - b) (drop b input)) lent
parts_are form input {p} {q} {a} {b} u h v k =
    let back : split_next (drop (behind_of (length input) p.to) input)
    ≡ record { front = slice a q.to input; back = drop (behind_of (length input) q.to) input } =
    ap (λ (n : ℕ). split_next (drop n input)) (sym h.is) ∙ v.is in
    let new : slice a q.to input ≡ take (q.to - q.from) (drop q.from input) =
    ap (λ (n : ℕ). slice n q.to input) (sym v.start) ∙ part_slice q.from q.to input v.order in
    let rest : drop (behind_of (length input) q.to) input ≡ take (length input - b) (drop b input) =
    ap (λ (n : ℕ). drop n input) (sym k.is) ∙ sym (rest_whole input b) in
    ap (recheck_parts form) u.is
    ∙ ap (λ (s : Split). recheck form (take p.to input) s.front s.back lent) back
    ∙ ap₂ {C = Result (List ℕ)} (λ (n l : List ℕ). recheck form (take p.to input) n l lent) new rest

pub parts_shown : (form : Form) (input : List ℕ) {out out' : List ℕ} {p q : Part} {a b r : ℕ} → UntilNext input 0 p → Behind (length input) p.to a → UntilNext input a q
    → Behind (length input) q.to b
    → AnswersRecheck form (take p.to input) (take (q.to - q.from) (drop q.from input)) (take (length input - b) (drop b input)) out out' r
    → AnswersParts form input out out' r
unfolding recheck_program
parts_shown form input {out' = out'} {r = r} u h v k w = record {
  is = λ e. subst (λ (x : Result (List ℕ)). Shows (printed x) out' r) (sym (parts_are form input u h v k)) (w.is e);
}
