-- The number that an export answers tells the call's outcome and no other. Assumes nothing.
use mathlib.Core.Path.{◌≡◌, refl, sym, ap, ap₂, subst, ◌∙◌}
use mathlib.Core.Bool.{Bool, true, false}
use Prim.Native.Nat.{ℕ, ◌+◌, ◌*◌, ◌/◌, ◌%◌, ◌≤◌}
use native.Mathlib.Omega.{arith}
use native.Mathlib.Nat.{div-add-mod', mul-add-div_right, mul-add-mod_self_right, div-eq_of_lt, mod-eq_of_lt}
use mathlib.Core.List.{List}
use lib.Dec.{ltb}
use borrow.Author.Tests.{lt-ltb, le-ltb}
use Rattle.cells.specs.Part.{if}
use Rattle.rules.specs.Table.{Result, accepted, refused}
use Rattle.rules.specs.Calls.{Left}
use Rattle.std.specs.Prelude.{Result as Outcome, Ok, Err}
use Rattle.outcomes.specs.Outcomes.{Says}
use Rattle.rules.specs.declared.Form.{Form}
use Rattle.canon_call.specs.Called.{Canon, CanonRoot}
use Rattle.recheck_call.specs.Rechecked.{Rechecked}
use Rattle.signatures.specs.declared.Refused.{Refused}
use Rattle.signatures.specs.Exports.{upper, code_of, told_by, outcome_by, Numbered, Code, Exported}
use Rattle.signatures.proofs.Numbers.{NotZero, canon_not, canon_root_not, recheck_not}

-- a number is that of the outcome that it tells
told_by_lem : (c : ℕ) (b : Bool) → code_of (if b (λ _. accepted c) (λ _. refused (c / upper) (c % upper))) ≡ c
told_by_lem c true = refl
told_by_lem c false = div-add-mod' c upper

pub told_code : (c : ℕ) → code_of (told_by c) ≡ c
told_code c = told_by_lem c (ltb c upper)

-- two numbers that tell one outcome are the same
pub told_one : (c d : ℕ) → told_by c ≡ told_by d → c ≡ d
told_one c d e = sym (told_code c) ∙ ap code_of e ∙ told_code d

-- an outcome of numbers of 32 bits, with no refusal by 0, is told by its number
pub code_told : (r : Result ℕ) → Numbered r → NotZero r → told_by (code_of r) ≡ r
code_told (accepted n) h z = rw (lt-ltb n upper (omega arith))
code_told (refused k l) h z =
    let q : (k * upper + l) / upper ≡ k =
    mul-add-div_right {m = upper} (omega arith) k l ∙ ap (λ (x : ℕ). k + x) (div-eq_of_lt {n = l} {m = upper} (omega arith)) ∙ omega arith in
    let m : (k * upper + l) % upper ≡ l = mul-add-mod_self_right k upper l ∙ mod-eq_of_lt {n = l} {m = upper} (omega arith) in
    rw (le-ltb (k * upper + l) upper (omega arith)) (ap₂ {C = Result ℕ} (λ (x y : ℕ). refused x y) q m)

-- two outcomes with one number are the same
pub code_one : (r s : Result ℕ) → Numbered r → NotZero r → Numbered s → NotZero s → code_of r ≡ code_of s → r ≡ s
code_one r s h z i y e = sym (code_told r h z) ∙ ap told_by e ∙ code_told s i y

-- a call that does what the rules say is refused as they say
said_not : {l : Left} {out' : List ℕ} {r : Result ℕ} → Says l out' r → NotZero l.outcome → NotZero r
said_not s h = subst (λ (y : Result ℕ). NotZero y) (sym s.outcome) h

-- what is promised of an outcome is promised of what its number tells
exported : {P : Result ℕ → Type 0} {r : Result ℕ} {c : ℕ} → P r → NotZero r → Code r c → Exported P c
exported {P} {r} p z k = record { promised = subst P (sym (ap told_by k.is ∙ code_told r k.numbered z)) p }

module _ (text out : List ℕ) {draft table arena work out' draft' table' arena' work' : List ℕ} {r : Result ℕ} {c : ℕ} where
  pub canon_exported : (form : Form) → Canon form text out draft table arena work out' draft' table' arena' work' r → Code r c
      → Exported (Canon form text out draft table arena work out' draft' table' arena' work') c
  canon_exported form p k = exported p (said_not p.says (canon_not form text out _)) k

  pub canon_root_exported : (id sign : ℕ) → CanonRoot text id sign out draft table arena work out' draft' table' arena' work' r → Code r c
      → Exported (CanonRoot text id sign out draft table arena work out' draft' table' arena' work') c
  canon_root_exported id sign p k = exported p (said_not p.says (canon_root_not text id sign out _)) k

pub recheck_exported : (form : Form) (oldText newText listing out : List ℕ) {draft old table arena work out' draft' old' table' arena' work' : List ℕ} {r : Result ℕ} {c : ℕ}
    → Rechecked form oldText newText listing out draft old table arena work out' draft' old' table' arena' work' r → Code r c
    → Exported (Rechecked form oldText newText listing out draft old table arena work out' draft' old' table' arena' work') c
recheck_exported form oldText newText listing out p k = exported p (said_not p.called.says (recheck_not form oldText newText listing out _)) k

-- each way out of `code`
module _ {r : Outcome ℕ Refused} where
  pub code_written : {n : ℕ} → r ≡ Ok n → n ≤ 4294967295 → Code (outcome_by r) n
  code_written e h = rw e (record { is = refl; numbered = h })

  pub code_refused : {f : Refused} {c : ℕ} → r ≡ Err f → f.number ≤ 4294967295 → f.line ≤ 4294967295 → c ≡ f.number * 4294967296 + f.line → Code (outcome_by r) c
  code_refused e h i f = rw e (record { is = f; numbered = (h, i) })
