-- What a call comes to, its test of the scratch, a text copied to the output, and the scratch wiped; and that the promise leaves nothing open. Assumes nothing.
use mathlib.Core.Path.{◌≡◌, refl, sym, ap, ap₂, subst, ◌∙◌}
use mathlib.Core.Bool.{Bool, true, false}
use Prim.Native.Nat.{ℕ, suc, ◌+◌, ◌≤◌, ◌<◌}
use mathlib.Core.Logic.{◌⊎◌, inl, inr}
use mathlib.Core.List.{List, [], ◌∷◌, ◌++◌}
use lib.ListN.{length, replicate, take, drop, get_or, set, length-set}
use lib.Seq.{paste-suc}
use lib.Dec.{ltb}
use native.Mathlib.Omega.{arith}
use borrow.Author.Tests.{ltb-false, lt-ltb, le-ltb}
use Rattle.layout.specs.Layout.{draft_length, table_length, work_length}
use Rattle.rules.specs.Table.{Result, refused}
use Rattle.rules.specs.Calls.{Left, leaves}
use Rattle.laws.proofs.Admitting.{neither}
use Rattle.std.specs.Prelude.{Result as Outcome, Ok, Err}
use Rattle.rules.specs.Refusals.{number}
use Rattle.rules.specs.declared.Refusal.{Refusal}
use Rattle.rules.specs.declared.Refusal.TheVariants.{Form, Ceiling, Range, Ascent, Frozen, Keys, Members, Nodes, Cells, Incomparable, Listing, Output, Scratch}
use Rattle.rules.specs.declared.Fault.{Fault}
use Rattle.outcomes.specs.Outcomes.{is_short, Short, Copies, outcome_of, Says, Zero, Wiped, Called}

-- each way out of `is_short`; m is what is stated for the arena
module _ (d t a m w : ℕ) where
  pub short_any : {b : Bool} → b ≡ true → (d < draft_length) ⊎ (((draft_length ≤ d) × (t < table_length)) ⊎ ((draft_length ≤ d) × (table_length ≤ t) × (a < m))) → Short d t a m w b
  unfolding is_short
  short_any e (inl h) = record { is = e ∙ simp (lt-ltb d draft_length h) }
  short_any e (inr (inl (h, i))) = record { is = e ∙ simp (le-ltb d draft_length h, lt-ltb t table_length i) }
  short_any e (inr (inr (h, i, j))) = record { is = e ∙ simp (le-ltb d draft_length h, le-ltb t table_length i, lt-ltb a m j) }

  pub short_last : draft_length ≤ d → table_length ≤ t → m ≤ a → Short d t a m w (ltb w work_length)
  unfolding is_short
  short_last h i j = record { is = simp (le-ltb d draft_length h, le-ltb t table_length i, le-ltb a m j) }

-- the slices of a run are as long as they must be
pub long_enough : {d t a m w : ℕ} {b : Bool} → Short d t a m w b → b ≡ false → (table_length ≤ t) × (m ≤ a) × (work_length ≤ w)
unfolding is_short
long_enough {d} {t} {a} {m} {w} h e =
    let p = neither (ltb d draft_length) _ (sym h.is ∙ e) in
    let q = neither (ltb t table_length) _ p.1 in
    let r = neither (ltb a m) _ q.1 in
    (ltb-false t table_length q.0, ltb-false a m r.0, ltb-false w work_length r.1)

-- the first i bytes of the draft are copied
pub record Copying (out₀ draft out : List ℕ) (n i : ℕ) : Type 0 where
  pub few : i ≤ n
  pub same : length out ≡ length out₀
  pub is : out ≡ take i draft ++ drop i out₀

pasted : (out draft : List ℕ) (i : ℕ) → i < length out → i < length draft
    → set (take i draft ++ drop i out) i (get_or draft i 0) ≡ take (suc i) draft ++ drop (suc i) out
pasted out draft i room long =
    let z : 0 + i ≡ i = omega arith in
    let y : 0 + suc i ≡ suc i = omega arith in
    ap₂ {C = List ℕ} (λ (j k : ℕ). set (take i draft ++ drop j out) k (get_or draft i 0)) (sym z) (sym z)
    ∙ paste-suc out 0 draft i 0 (omega arith) long
    ∙ ap (λ (k : ℕ). take (suc i) draft ++ drop k out) y

pub copying_start : {out draft : List ℕ} {n : ℕ} → Copying out draft out n 0
copying_start = record { few = omega arith; same = refl; is = refl }

pub copying_more : {out₀ draft out : List ℕ} {n i b : ℕ} → Copying out₀ draft out n i → i < n → n ≤ length out₀ → n ≤ length draft → b ≡ get_or draft i 0
    → Copying out₀ draft (set out i b) n (i + 1)
copying_more {out₀} {draft} {out} {n} {i} {b} c lt room long e =
    let next : suc i ≡ i + 1 = omega arith in
    record {
      few = omega arith;
      same = length-set out i b ∙ c.same;
      is = ap₂ {C = List ℕ} (λ (l : List ℕ) (x : ℕ). set l i x) c.is e
          ∙ pasted out₀ draft i (omega arith) (omega arith)
          ∙ ap (λ (k : ℕ). take k draft ++ drop k out₀) next;
    }

pub copying_done : {out₀ draft out : List ℕ} {n i : ℕ} → Copying out₀ draft out n i → n ≤ i → Copies out₀ draft n out
copying_done {out₀} {draft} {out} {n} {i} c h =
    let e : i ≡ n = omega (arith, c.few) in record { is = c.is ∙ ap (λ (k : ℕ). take k draft ++ drop k out₀) e }

-- the same, of the outcome that the rules give
pub says_as : (out : List ℕ) {x y : Result (List ℕ)} {out' : List ℕ} {r : Result ℕ} → x ≡ y → Says (leaves out y) out' r → Says (leaves out x) out' r
says_as out {out' = out'} {r = r} e = subst (λ (z : Result (List ℕ)). Says (leaves out z) out' r) (sym e)

-- a refusal leaves the output as found
pub refused_as : (out : List ℕ) {x : Result (List ℕ)} {k l : ℕ} → x ≡ refused k l → Says (leaves out x) out (refused k l)
refused_as out e = says_as out e (record { outcome = refl; output = refl })

-- the number with which a call is refused tells why
why : ℕ → Refusal
why n =
    get_or (Scratch ∷ Form ∷ Ceiling ∷ Range ∷ Ascent ∷ Frozen ∷ Keys ∷ Members ∷ Nodes ∷ Cells ∷ Incomparable ∷ Listing ∷ Output ∷ []) n Scratch

why_told : (r : Refusal) → why (number r) ≡ r
unfolding why
why_told Form = refl
why_told Ceiling = refl
why_told Range = refl
why_told Ascent = refl
why_told Frozen = refl
why_told Keys = refl
why_told Members = refl
why_told Nodes = refl
why_told Cells = refl
why_told Incomparable = refl
why_told Listing = refl
why_told Output = refl
why_told Scratch = refl

-- the rules' outcome is one of the code's
pub outcome_one : (r s : Outcome ℕ Fault) → outcome_of r ≡ outcome_of s → r ≡ s
outcome_one (Ok m) (Ok n) e = cc
outcome_one (Ok m) (Err f) e = absurd (let z : ◌≡◌ {A = ℕ} 0 1 = cc in omega arith)
outcome_one (Err f) (Ok n) e = absurd (let z : ◌≡◌ {A = ℕ} 0 1 = cc in omega arith)
outcome_one (Err f) (Err g) e =
    let n : number f.refusal ≡ number g.refusal = cc in
    let l : f.line ≡ g.line = cc in
    let same : f.refusal ≡ g.refusal = sym (why_told f.refusal) ∙ ap why n ∙ why_told g.refusal in
    ap₂ {C = Outcome ℕ Fault} (λ (r : Refusal) (k : ℕ). Err (record { refusal = r; line = k })) same l

-- a scratch wiped after what kept its length
pub zeroed : {s u v : List ℕ} → length u ≡ length s → Zero u v → Zero s v
zeroed l z = record { is = z.is ∙ ap (λ (n : ℕ). replicate n 0) l }

-- a call that says what the rules say, and wipes the scratch after it
pub called : {l : Left} {draft table arena work draft₁ table₁ arena₁ work₁ out' draft' table' arena' work' : List ℕ} {r : Result ℕ} → Says l out' r
    → length draft₁ ≡ length draft → length table₁ ≡ length table → length arena₁ ≡ length arena → length work₁ ≡ length work
    → Wiped draft₁ table₁ arena₁ work₁ draft' table' arena' work' → Called l draft table arena work out' draft' table' arena' work' r
called s d t a w z = record {
  says = s;
  wiped = record {
    draft_zero = zeroed d z.draft_zero;
    table_zero = zeroed t z.table_zero;
    arena_zero = zeroed a z.arena_zero;
    work_zero = zeroed w z.work_zero;
  };
}

-- outcome, output and scratch are the same
abbrev pub Same : {R : Type 0} → List ℕ → List ℕ → List ℕ → List ℕ → List ℕ → R → List ℕ → List ℕ → List ℕ → List ℕ → List ℕ → R → Type 0
Same o d t a w r o' d' t' a' w' r' = (r ≡ r') × (o ≡ o') × (d ≡ d') × (t ≡ t') × (a ≡ a') × (w ≡ w')

module _ {draft table arena work o d t a w o' d' t' a' w' : List ℕ} {l : Left} where
  -- a call that keeps this promise has one outcome, of all that the rules can give, one output and one scratch after it
  pub called_unique : {r r' : Result ℕ} → Called l draft table arena work o d t a w r → Called l draft table arena work o' d' t' a' w' r'
      → Same o d t a w r o' d' t' a' w' r'
  called_unique x y =
      let p = x.wiped in let q = y.wiped in (
        x.says.outcome ∙ sym y.says.outcome,
        x.says.output ∙ sym y.says.output,
        p.draft_zero.is ∙ sym q.draft_zero.is,
        p.table_zero.is ∙ sym q.table_zero.is,
        p.arena_zero.is ∙ sym q.arena_zero.is,
        p.work_zero.is ∙ sym q.work_zero.is,
      )

  -- and so the code has one answer
  pub called_answer : {r r' : Outcome ℕ Fault} → Called l draft table arena work o d t a w (outcome_of r)
      → Called l draft table arena work o' d' t' a' w' (outcome_of r') → Same o d t a w r o' d' t' a' w' r'
  called_answer {r = r} {r' = r'} x y =
      let p = called_unique x y in (outcome_one r r' p.0, p.1, p.2, p.3, p.4, p.5)
