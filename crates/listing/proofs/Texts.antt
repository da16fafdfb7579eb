-- Laws of `over`, and of what was written piece after piece. Assumes nothing.
use mathlib.Core.Bool.{Bool}
use mathlib.Core.Path.{◌≡◌, refl, sym, ap, subst, ◌∙◌}
use Prim.Native.Nat.{ℕ, zero, suc, ◌+◌, ◌-◌, ◌*◌, ◌/◌, ◌%◌, ◌≤◌, ◌<◌}
use native.Mathlib.Omega.{arith}
use mathlib.Core.List.{List, [], ◌∷◌, ◌++◌, append-nil}
use native.Mathlib.Numerals.{add-one}
use lib.ListN.{length, set, take, drop, get_or, length-append}
use lib.Seq.{set-append_seam, append_snoc, take-suc}
use native.Mathlib.Nat.{not-suc-le-zero}
use borrow.Author.Tests.{lt-ltb, le-ltb, eq-eqb, ne_eqb}
use Rattle.cells.specs.Part.{if, cell, part}
use Rattle.rules.specs.Text.{tab, decimal_by, decimal, field_text, a_sign}
use Rattle.cells.proofs.Parts.{run_snoc}
use Rattle.text.specs.Keywords.{Byte}
use Rattle.listing.specs.Writes.{over, Wrote, WroteKeyword}
use Rattle.laws.proofs.OldListing.{decimal_steps}

over_at : (o : List ℕ) (t : List ℕ) (p q : ℕ) → p ≡ q → over o p t ≡ over o q t
over_at o t p q e = ap (λ (k : ℕ). over o k t) e

over_append : (o : List ℕ) (p : ℕ) (t u : List ℕ) → over o p (t ++ u) ≡ over (over o p t) (p + length t) u
over_append o p [] u = over_at o u p (p + 0) (omega arith)
over_append o p (b ∷ bs) u =
    over_append (set o p b) (suc p) bs u ∙ over_at (over (set o p b) (suc p) bs) u (suc p + length bs) (p + suc (length bs)) (omega arith)

-- a text that was written from the beginning on stands there, where there is room for it
over_within : (front o t : List ℕ) → length t ≤ length o → over (front ++ o) (length front) t ≡ front ++ t ++ drop (length t) o
over_within front o [] h = ap (λ (l : List ℕ). l ++ o) (sym (append-nil front))
over_within front [] (b ∷ t) h = absurd (not-suc-le-zero h)
over_within front (x ∷ o) (b ∷ t) h =
    let n : suc (length front) ≡ length (front ++ (b ∷ [])) = omega (arith, length-append front (b ∷ [])) in
    ap (λ (l : List ℕ). over l (suc (length front)) t) (set-append_seam front x o b ∙ sym (append_snoc front b o))
    ∙ ap (λ (k : ℕ). over (front ++ (b ∷ []) ++ o) k t) n
    ∙ over_within (front ++ (b ∷ [])) o t (omega arith)
    ∙ ap (λ (l : List ℕ). l ++ drop (length t) o) (append_snoc front b t)

pub over_whole : (o t : List ℕ) → length t ≤ length o → over o 0 t ≡ t ++ drop (length t) o
over_whole o t h = over_within [] o t h

pub wrote_none : (p : ℕ) (o : List ℕ) → Wrote [] p o o p
wrote_none p o = record { to = λ _. omega arith; is = λ _. refl }

-- one piece after another
module _ {t u : List ℕ} {p q r : ℕ} {o o₁ o₂ : List ℕ} (a : Wrote t p o o₁ q) (b : Wrote u q o₁ o₂ r) where
  more_to : p + (length t + length u) ≤ 4294967295 → r ≡ p + (length t + length u)
  more_to h = let e : q ≡ p + length t = a.to (omega arith) in let f : r ≡ q + length u = b.to (omega arith) in omega arith

  more_is : p + (length t + length u) ≤ 4294967295 → o₂ ≡ over o p (t ++ u)
  more_is h =
      let e : q ≡ p + length t = a.to (omega arith) in
      b.is (omega arith) ∙ ap (λ (l : List ℕ). over l q u) (a.is (omega arith)) ∙ over_at (over o p t) u q (p + length t) e ∙ sym (over_append o p t u)

  pub wrote_more : Wrote (t ++ u) p o o₂ r
  wrote_more = record {
    to = λ h. more_to (omega (arith, length-append t u)) ∙ ap (λ (k : ℕ). p + k) (sym (length-append t u));
    is = λ h. more_is (omega (arith, length-append t u));
  }

-- the same text in other words
pub wrote_as : {t u : List ℕ} {p r : ℕ} {o o' : List ℕ} → Wrote t p o o' r → t ≡ u → Wrote u p o o' r
wrote_as {t} {u} {p} {r} {o} {o'} a e = subst (λ (l : List ℕ). Wrote l p o o' r) e a

-- decimals: how many digits are allowed for does not matter
less : (f n : ℕ) → n < 10 → decimal_by f n ≡ (48 + n) ∷ []
less zero n h = refl
less (suc f) n h =
    ap (λ (b : Bool). if b (λ _. (48 + n) ∷ []) (λ _. decimal_by f (n / 10) ++ ((48 + n % 10) ∷ []))) (lt-ltb n 10 h)

more : (f n : ℕ) → 10 ≤ n → decimal_by (suc f) n ≡ decimal_by f (n / 10) ++ ((48 + n % 10) ∷ [])
more f n h =
    ap (λ (b : Bool). if b (λ _. (48 + n) ∷ []) (λ _. decimal_by f (n / 10) ++ ((48 + n % 10) ∷ []))) (le-ltb n 10 h)

pub decimal_less : {n : ℕ} → n < 10 → (48 + n) ∷ [] ≡ decimal n
unfolding decimal
decimal_less {n} h = sym (less n n h)

decimal_more : {n : ℕ} → 10 ≤ n → decimal (n / 10) ++ ((48 + n % 10) ∷ []) ≡ decimal n
unfolding decimal
decimal_more {n} h =
    let e : n ≡ suc (n - 1) = omega arith in
    ap (λ (x : List ℕ). x ++ ((48 + n % 10) ∷ [])) (decimal_steps (n / 10) (n - 1) (n / 10) (omega arith) (omega arith))
    ∙ sym (more (n - 1) n h)
    ∙ ap (λ (f : ℕ). decimal_by f n) (sym e)

pub decimal_one : {n p r : ℕ} {o o' : List ℕ} → n < 10 → Wrote ((48 + n) ∷ []) p o o' r → Wrote (decimal n) p o o' r
decimal_one h a = wrote_as a (decimal_less h)

pub decimal_two : {n p q r : ℕ} {o o₁ o₂ : List ℕ} → 10 ≤ n → Wrote (decimal (n / 10)) p o o₁ q → Wrote ((48 + n % 10) ∷ []) q o₁ o₂ r
    → Wrote (decimal n) p o o₂ r
decimal_two h a b = wrote_as (wrote_more a b) (decimal_more h)

pub sign_plus : {s p q r : ℕ} {o o₁ o₂ : List ℕ} → s ≡ 0 → Wrote (9 ∷ []) p o o₁ q → Wrote (43 ∷ []) q o₁ o₂ r → Wrote (tab ∷ field_text a_sign (s ∷ [])) p o o₂ r
unfolding field_text
sign_plus {s} h a b = wrote_as (wrote_more a b) (simp (eq-eqb s 0 h))

pub sign_minus : {s p q r : ℕ} {o o₁ o₂ : List ℕ} → (s ≡ 0 → ⊥) → Wrote (9 ∷ []) p o o₁ q → Wrote (45 ∷ []) q o₁ o₂ r
    → Wrote (tab ∷ field_text a_sign (s ∷ [])) p o o₂ r
unfolding field_text
sign_minus {s} h a b = wrote_as (wrote_more a b) (simp (ne_eqb s 0 h))

-- the first k bytes of w are written, and of a keyword's
pub word_more : (w : List ℕ) (k : ℕ) {p q r : ℕ} {o o₁ o₂ : List ℕ} → Wrote (take k w) p o o₁ q → k < length w → Wrote (get_or w k 0 ∷ []) q o₁ o₂ r
    → Wrote (take (k + 1) w) p o o₂ r
word_more w k a lt b = wrote_as (wrote_more a b) (sym (ap (λ (j : ℕ). take j w) (add-one k) ∙ take-suc w k 0 lt))

pub part_more : (w : List ℕ) (a k : ℕ) {p q x r : ℕ} {o o₁ o₂ : List ℕ} → Wrote (part w a k) p o o₁ q → Byte w (a + k) x → Wrote (x ∷ []) q o₁ o₂ r
    → Wrote (part w a (k + 1)) p o o₂ r
part_more w a k l y b =
    wrote_as (wrote_more l b)
    (ap (λ (z : ℕ). part w a k ++ (z ∷ [])) y.is ∙ sym (run_snoc (cell w) a k) ∙ ap (part w a) (sym (add-one k)))

pub keyword_done : (b : List ℕ) (i n k : ℕ) {p r : ℕ} {o o' : List ℕ} → Wrote (part b (17 * i + 1) k) p o o' r → n ≤ k → k ≤ n → Byte b (17 * i) n
    → WroteKeyword b i p o o' r
keyword_done b i n k h low high y = let e : k ≡ n = omega arith in record { is = wrote_as h (ap (part b (17 * i + 1)) (e ∙ y.is)) }
