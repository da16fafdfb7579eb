-- Digits, numbers, and the search for a separator, step by step. Assumes nothing.
use mathlib.Core.Path.{◌≡◌, refl, sym, ap, ◌∙◌}
use mathlib.Core.Bool.{Bool, true, false}
use Prim.Native.Nat.{ℕ, ◌+◌, ◌-◌, ◌*◌, ◌≤◌, ◌<◌}
use native.Mathlib.Omega.{arith}
use mathlib.Core.List.{List, [], ◌∷◌, ◌++◌}
use lib.Dec.{eqb}
use lib.ListN.{length, take, drop}
use lib.Pointwise.{pointwise}
use mathlib.Core.Logic.{◌⊎◌, ⊎_elim}
use Rattle.std.proofs.lemmas.Bool.{cases_lt}
use borrow.Author.Tests.{lt-ltb, le-ltb, eq-eqb, ne_eqb}
use Rattle.cells.specs.Part.{cell, if}
use Rattle.cells.proofs.Parts.{part_taken, eq_list_is}
use Rattle.rules.specs.Plain.{◌>>=◌}
use Rattle.rules.specs.Text.{cut, pieces, digit, digits, number}
use Rattle.std.specs.Prelude as std
use Rattle.std.specs.Prelude.{None, Some, SomeIff}
use Rattle.text.specs.Reads.{span, num_of, Digit, Digits, Number, Word, Seek}
use Rattle.text.proofs.Spans.{span_none, span_next, span_snoc}
use mathlib.Core.Option.{Option, none, some}

too_big : (v b : ℕ) → 48 ≤ b → b ≤ 57 → 4294967295 < v * 10 + (b - 48) → none ≡ digit v b
unfolding digit
too_big v b l m z = simp (le-ltb b 48 l, le-ltb 57 b m, lt-ltb 4294967295 (v * 10 + (b - 48)) z)

module _ {v b : ℕ} where
  pub digit_out : (b < 48) ⊎ ((48 ≤ b) × (57 < b)) → Digit v b None
  unfolding digit
  digit_out h = record {
    is = ⊎_elim (λ (l : b < 48). simp (lt-ltb b 48 l)) (λ (g : (48 ≤ b) × (57 < b)). simp (le-ltb b 48 g.0, lt-ltb 57 b g.1)) h;
  }

  module _ (l : 48 ≤ b) (m : b ≤ 57) where
    pub digit_big : {r : std.Option ℕ} → (v * 10 < 4294967296 → ⊥) → r ≡ None → Digit v b r
    digit_big h e = record { is = ap num_of e ∙ ⊎_elim (λ (z : v * 10 < 4294967296). absurd (h z)) (λ z. too_big v b l m (omega arith)) (cases_lt (v * 10) 4294967296) }

    pub digit_is : {x d : ℕ} (r : std.Option ℕ) → x ≡ v * 10 → d ≡ b - 48 → SomeIff r (x + d < 4294967296) (x + d) → Digit v b r
    unfolding digit
    digit_is {x} {d} None e f h = record {
      is = ⊎_elim (λ (z : x + d < 4294967296). absurd (h z)) (λ (z : 4294967296 ≤ x + d). too_big v b l m (omega arith)) (cases_lt (x + d) 4294967296);
    }
    digit_is {x} {d} (Some y) e f h = record {
      is =
          let z : v * 10 + (b - 48) ≤ 4294967295 = omega (arith, h.0) in
          simp (le-ltb b 48 l, le-ltb 57 b m, le-ltb 4294967295 (v * 10 + (b - 48)) z) (ap (λ (n : ℕ). some n) (omega (arith, h.1)));
    }

-- the digits from i on, after those that make v, are all the digits
pub record Counting (s : List ℕ) (from to i v : ℕ) : Type 0 where
  pub is : digits v (span s i to) ≡ digits 0 (span s from to)

pub count_start : {s : List ℕ} {from to : ℕ} → Counting s from to from 0
count_start = record { is = refl }

module _ {s : List ℕ} {from to i v : ℕ} (inv : Counting s from to i v) where
  next : i < to → (digit v (cell s i) >>= (λ (x : ℕ). digits x (span s (i + 1) to))) ≡ digits 0 (span s from to)
  next h = ap (digits v) (sym (span_next s i to h)) ∙ inv.is

  pub count_more : {r : std.Option ℕ} {x : ℕ} → i < to → Digit v (cell s i) r → r ≡ Some x → Counting s from to (i + 1) x
  count_more h p e = record { is = ap (λ (m : Option ℕ). m >>= (λ (x : ℕ). digits x (span s (i + 1) to))) (sym (ap num_of e) ∙ p.is) ∙ next h }

  pub count_no : {r : std.Option ℕ} → i < to → Digit v (cell s i) r → r ≡ None → Digits s from to None
  count_no h p e = record { is = ap (λ (m : Option ℕ). m >>= (λ (x : ℕ). digits x (span s (i + 1) to))) (sym (ap num_of e) ∙ p.is) ∙ next h }

  pub count_done : to ≤ i → Digits s from to (Some v)
  count_done h = record { is = ap (digits v) (sym (span_none s i to h)) ∙ inv.is }

module _ {s : List ℕ} {from to : ℕ} where
  pub number_none : to ≤ from → Number s from to None
  unfolding number
  number_none h = record { is = ap number (sym (span_none s from to h)) }

module _ (s : List ℕ) (from to : ℕ) where
  two : from + 1 < to → span s from to ≡ cell s from ∷ cell s (from + 1) ∷ span s (from + 1 + 1) to
  two h = span_next s from to (omega arith) ∙ ap (λ (l : List ℕ). cell s from ∷ l) (span_next s (from + 1) to h)

  one : from < to → to ≤ from + 1 → span s from to ≡ cell s from ∷ []
  one h k = span_next s from to h ∙ ap (λ (l : List ℕ). cell s from ∷ l) (span_none s (from + 1) to k)

module _ {s : List ℕ} {from to : ℕ} where
  pub number_zero : from + 1 < to → cell s from ≡ 48 → Number s from to None
  unfolding number
  number_zero h e = record { is = rw (two s from to h) (simp (eq-eqb (cell s from) 48 e)) }

  pub number_long : {r : std.Option ℕ} → from + 1 < to → (cell s from ≡ 48 → ⊥) → Digits s from to r → Number s from to r
  unfolding number
  number_long h e p = record { is = p.is ∙ rw (two s from to h) (simp (ne_eqb (cell s from) 48 e)) }

  pub number_one : {r : std.Option ℕ} → from < to → to ≤ from + 1 → Digits s from to r → Number s from to r
  unfolding number
  number_one h k p = record { is = p.is ∙ rw (one s from to h k) }

-- a cut is of some pieces
cut_if : (P : List (List ℕ) → Type 0) (q r : List (List ℕ)) (t : Bool) → P q → P r → P (if t (λ _. q) (λ _. r))
cut_if P q r true h k = h
cut_if P q r false h k = k

pub cut_some : (P : List (List ℕ) → Type 0) → ((p : List ℕ) (ps : List (List ℕ)) → P (p ∷ ps)) → (sep : ℕ) (got x : List ℕ) → P (cut sep got x)
cut_some P f sep got [] = f got []
cut_some P f sep got (b ∷ bs) = cut_if P (got ∷ cut sep [] bs) (cut sep (got ++ (b ∷ [])) bs) (eqb b sep) (f got (cut sep [] bs)) (cut_some P f sep (got ++ (b ∷ [])) bs)

-- the search: what was passed is the piece so far
pub record Seeking (s : List ℕ) (from to sep i : ℕ) : Type 0 where
  pub low : from ≤ i
  pub high : i ≤ to
  pub is : pieces sep (span s from to) ≡ cut sep (span s from i) (span s i to)

module _ {s : List ℕ} {from to sep : ℕ} where
  pub seek_start : from ≤ to → Seeking s from to sep from
  unfolding pieces
  seek_start h = record { low = omega arith; high = h; is = ap (λ (l : List ℕ). cut sep l (span s from to)) (sym (span_none s from from (omega arith))) }

  module _ {i : ℕ} (inv : Seeking s from to sep i) where
    turn : i < to → pieces sep (span s from to) ≡ cut sep (span s from i) (cell s i ∷ span s (i + 1) to)
    turn h = inv.is ∙ ap (cut sep (span s from i)) (span_next s i to h)

    pub seek_more : i < to → (cell s i ≡ sep → ⊥) → Seeking s from to sep (i + 1)
    seek_more h e = record {
      low = omega (arith, inv.low);
      high = omega arith;
      is = turn h ∙ simp (ne_eqb (cell s i) sep e) (ap (λ (l : List ℕ). cut sep l (span s (i + 1) to)) (sym (span_snoc s from i inv.low)));
    }

    pub seek_found : i < to → cell s i ≡ sep → Seek s from to sep i
    unfolding pieces
    seek_found h e = record {
      low = inv.low;
      high = omega arith;
      found = λ _. e;
      here = λ _. turn h ∙ simp (eq-eqb (cell s i) sep e);
      last = λ q. absurd (let z : ⊥ = omega arith in z);
    }

    pub seek_none : to ≤ i → Seek s from to sep i
    seek_none h = record {
      low = inv.low;
      high = inv.high;
      found = λ q. absurd (let z : ⊥ = omega arith in z);
      here = λ q. absurd (let z : ⊥ = omega arith in z);
      last = λ _. inv.is ∙ ap (cut sep (span s from i)) (span_none s i to h);
    }

-- a number is of some bytes
pub number_some : {s : List ℕ} {from to v : ℕ} {r : std.Option ℕ} → Number s from to r → r ≡ Some v → (to ≤ from → ⊥)
unfolding number
number_some {s} {from} {to} h e le =
    let p : some _ ≡ none = sym (ap num_of e) ∙ h.is ∙ ap number (span_none s from to le) in
    let z : ◌≡◌ {A = ℕ} 0 1 = cc in omega arith

-- one byte alone
pub mark_is : {s : List ℕ} {from to b : ℕ} {r : Bool} → from ≤ to → to ≤ length s → r ≡ pointwise eqb (take (to - from) (drop from s)) (b ∷ [])
    → Word s from to (b ∷ []) r
mark_is {s} {from} {to} {b} order within h = record {
  is = h ∙ ap (λ (l : List ℕ). pointwise eqb l (b ∷ [])) (part_taken s from (to - from) (omega arith)) ∙ eq_list_is (span s from to) (b ∷ []);
}
