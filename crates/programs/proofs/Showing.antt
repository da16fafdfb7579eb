-- What is shown of a call's outcome is what the rules' program prints. Assumes nothing.
use mathlib.Core.Path.{◌≡◌, sym, ap₂, subst, ◌∙◌}
use mathlib.Core.Bool.{Bool, false}
use Prim.Native.Nat.{ℕ, ◌≤◌}
use native.Mathlib.Omega.{arith}
use mathlib.Core.List.{List, [], ◌∷◌}
use lib.ListN.{length, take, drop}
use lib.Seq.{take-append_seam}
use borrow.Author.Tests.{le-ltb}
use Rattle.layout.specs.Layout.{draft_length, table_length, work_length}
use Rattle.rules.specs.Plain.{ascii}
use Rattle.rules.specs.Text.{decimal, line_text}
use Rattle.rules.specs.Table.{Result, accepted, refused}
use Rattle.rules.specs.Calls.{leaves, unless_short, printed, lent}
use Rattle.laws.proofs.Bounding.{refusal_bounded}
use Rattle.listing.specs.Writes.{Wrote}
use Rattle.listing.proofs.Texts.{over_whole}
use Rattle.outcomes.specs.Outcomes.{is_short, outcome_of, Says}
use Rattle.std.specs.Prelude.{Result as Outcome, Ok, Err}
use Rattle.rules.specs.Refusals.{number}
use Rattle.rules.specs.declared.Fault.{Fault}
use Rattle.programs.specs.Shows.{Shows, ShowsOutcome}

-- what was written stands at the beginning
written_shown : (found : List ℕ) (x : Result (List ℕ)) {out : List ℕ} {n : ℕ} → Says (leaves found x) out (accepted n) → Shows (printed x) out n
written_shown found (accepted text) {out} {n} s =
    let e = s.outcome in
    let size : n ≡ length text = cc in
    record { size = size; is = ap₂ {C = List ℕ} (λ (k : ℕ) (o : List ℕ). take k o) size s.output ∙ take-append_seam text (drop (length text) found) }
written_shown found (refused k l) s = let e = s.outcome in absurd (let z : ◌≡◌ {A = ℕ} 0 1 = cc in omega arith)

-- the line of a refusal
abbrev refusal_line : ℕ → ℕ → List ℕ
refusal_line k l = line_text (ascii "refused" ∷ decimal k ∷ decimal l ∷ [])

line_shown : (t : List ℕ) {out out' : List ℕ} {r : ℕ} → Wrote t 0 out out' r → length t ≤ 30 → lent ≤ length out → Shows t out' r
line_shown t {out} {out'} {r} w few room =
    let to = w.to (omega arith) in
    let size : r ≡ length t = omega arith in
    record {
      size = size;
      is = ap₂ {C = List ℕ} (λ (k : ℕ) (o : List ℕ). take k o) size (w.is (omega arith) ∙ over_whole out t (omega arith))
          ∙ take-append_seam t (drop (length t) out);
    }

refused_shown : (found : List ℕ) (x : Result (List ℕ)) {out : List ℕ} {k l : ℕ} → Says (leaves found x) out (refused k l) → printed x ≡ refusal_line k l
refused_shown found (accepted text) s = let e = s.outcome in absurd (let z : ◌≡◌ {A = ℕ} 0 1 = cc in omega arith)
refused_shown found (refused m n) {k = k} {l = l} s =
    let e = s.outcome in
    let p : k ≡ m = cc in let q : l ≡ n = cc in
    sym (ap₂ {C = List ℕ} refusal_line p q)

-- each way out of `shown`
module _ {outcome : Outcome ℕ Fault} {out : List ℕ} where
  pub shows_written : {n : ℕ} → outcome ≡ Ok n → ShowsOutcome (outcome_of outcome) out out n
  shows_written e = rw e (record { is = λ found x s room. written_shown found x s })

  pub shows_refused : {out' : List ℕ} {f : Fault} {k r : ℕ} → outcome ≡ Err f → k ≡ number f.refusal → k ≤ 4294967295 → f.line ≤ 4294967295
      → Wrote (refusal_line k f.line) 0 out out' r → ShowsOutcome (outcome_of outcome) out out' r
  shows_refused {out'} {f} {k} {r} e n hk hl w =
      rw (e, ← n)
      (record {
        is = λ found x s room.
            subst (λ (t : List ℕ). Shows t out' r) (sym (refused_shown found x s)) (line_shown (refusal_line k f.line) w (refusal_bounded hk hl) room);
      })

-- a call with all scratch lent in full
pub call_shown : (out : List ℕ) (x : Result (List ℕ)) (short : Bool) {out₁ out' : List ℕ} {outcome : Result ℕ} {r : ℕ} → short ≡ false
    → Says (leaves out (unless_short short x)) out₁ outcome → lent ≤ length out₁ → ShowsOutcome outcome out₁ out' r → Shows (printed x) out' r
call_shown out x short {out₁} {outcome = outcome} e s room w =
    w.is out x (subst (λ (b : Bool). Says (leaves out (unless_short b x)) out₁ outcome) e s) room

pub full : {d t a m w : ℕ} → draft_length ≤ d → table_length ≤ t → m ≤ a → work_length ≤ w → is_short d t a m w ≡ false
unfolding is_short
full {d = d} {t = t} {a = a} {m = m} {w = w} hd ht ha hw = simp (le-ltb d draft_length hd, le-ltb t table_length ht, le-ltb a m ha, le-ltb w work_length hw)
