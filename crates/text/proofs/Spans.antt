-- Laws of `span`, the cells from a up to e. Assumes nothing.
use mathlib.Core.Path.{◌≡◌, refl, sym, ap, ap₂, ◌∙◌}
use Prim.Native.Nat.{ℕ, zero, suc, ◌+◌, ◌-◌, ◌≤◌, ◌<◌}
use native.Mathlib.Omega.{arith}
use native.Mathlib.Numerals.{add-one}
use mathlib.Core.List.{List, [], ◌∷◌, ◌++◌}
use lib.ListN.{length, set, length-set}
use lib.Seq.{get_or-set_other}
use Rattle.cells.specs.Part.{run, cell, part}
use Rattle.cells.proofs.Parts.{run_at, run_length, run_snoc, run_ext, part_set_snoc}
use Rattle.text.specs.Reads.{span, Above}

pub span_none : (s : List ℕ) (a e : ℕ) → e ≤ a → span s a e ≡ []
span_none s a e h = run_at (cell s) a a (e - a) 0 refl (omega arith)

pub span_next : (s : List ℕ) (a e : ℕ) → a < e → span s a e ≡ cell s a ∷ span s (a + 1) e
span_next s a e h =
    run_at (cell s) a a (e - a) (suc (e - (a + 1))) refl (omega arith)
    ∙ ap (λ (k : ℕ). cell s a ∷ part s k (e - (a + 1))) (sym (add-one a))

-- one more at the end
pub span_snoc : (s : List ℕ) (a i : ℕ) → a ≤ i → span s a (i + 1) ≡ span s a i ++ (cell s i ∷ [])
span_snoc s a i h =
    run_at (cell s) a a ((i + 1) - a) (suc (i - a)) refl (omega arith)
    ∙ run_snoc (cell s) a (i - a)
    ∙ ap (λ (k : ℕ). span s a i ++ (cell s k ∷ [])) (omega arith)

-- one more written at the end
pub span_set : (w : List ℕ) (a i v : ℕ) → a ≤ i → i < length w → span (set w i v) a (i + 1) ≡ span w a i ++ (v ∷ [])
span_set w a i v h l =
    let e : a + (i - a) ≡ i = omega arith in
    run_at (cell (set w i v)) a a ((i + 1) - a) (suc (i - a)) refl (omega arith)
    ∙ ap (λ (k : ℕ). part (set w k v) a (suc (i - a))) (sym e)
    ∙ part_set_snoc w a (i - a) v (omega arith)

-- the same cells
pub span_same : (t : ℕ) (w w' : List ℕ) (a e : ℕ) → Above t w w' → e ≤ t → span w' a e ≡ span w a e
span_same t w w' a e h le = run_ext (cell w') (cell w) a (e - a) (λ k p q. h.below k (omega arith))

-- the whole list
shift : (f : ℕ → ℕ) (a n : ℕ) → run f (suc a) n ≡ run (λ (k : ℕ). f (suc k)) a n
shift f a zero = refl
shift f a (suc n) = ap (λ (l : List ℕ). f (suc a) ∷ l) (shift f (suc a) n)

part_whole : (w : List ℕ) → part w 0 (length w) ≡ w
part_whole [] = refl
part_whole (x ∷ xs) = ap (λ (l : List ℕ). x ∷ l) (shift (cell (x ∷ xs)) 0 (length xs) ∙ part_whole xs)

pub span_whole : (w : List ℕ) → span w 0 (length w) ≡ w
span_whole w = run_at (cell w) 0 0 (length w - 0) (length w) refl (omega arith) ∙ part_whole w

-- what is written from t on leaves the rest
pub above_none : {t : ℕ} {w : List ℕ} → Above t w w
above_none = record { same_length = refl; below = λ k h. refl }

pub above_set : {t : ℕ} {w w' : List ℕ} (i v : ℕ) → Above t w w' → t ≤ i → Above t w (set w' i v)
above_set {t} {w} {w'} i v h le = record {
  same_length = length-set w' i v ∙ h.same_length;
  below = λ k b. get_or-set_other w' i k v 0 (omega arith) ∙ h.below k b;
}

-- a store before the span
pub span_before : (w : List ℕ) (i v a e : ℕ) → i < a → span (set w i v) a e ≡ span w a e
span_before w i v a e h = run_ext (cell (set w i v)) (cell w) a (e - a) (λ k p q. get_or-set_other w i k v 0 (omega arith))

-- the cells to m, and those from m on
run_append : (f : ℕ → ℕ) (a m n : ℕ) → run f a (m + n) ≡ run f a m ++ run f (a + m) n
run_append f a zero n = run_at f a (a + 0) (0 + n) n (omega arith) (omega arith)
run_append f a (suc m) n =
    run_at f a a (suc m + n) (suc (m + n)) refl (omega arith)
    ∙ ap (λ (l : List ℕ). f a ∷ l) (run_append f (suc a) m n ∙ ap (λ (k : ℕ). run f (suc a) m ++ run f k n) (omega arith))

pub span_append : (w : List ℕ) (a m e : ℕ) → a ≤ m → m ≤ e → span w a e ≡ span w a m ++ span w m e
span_append w a m e h k =
    run_at (cell w) a a (e - a) ((m - a) + (e - m)) refl (omega arith)
    ∙ run_append (cell w) a (m - a) (e - m)
    ∙ ap (λ (j : ℕ). span w a m ++ part w j (e - m)) (omega arith)

pub span_length : (w : List ℕ) (a e : ℕ) → length (span w a e) ≡ e - a
span_length w a e = run_length (cell w) a (e - a)

pub above_over : {t t' : ℕ} {w w₁ w₂ : List ℕ} → Above t w w₁ → Above t' w₁ w₂ → t ≤ t' → Above t w w₂
above_over h k le = record {
  same_length = k.same_length ∙ h.same_length;
  below = λ j b. k.below j (omega arith) ∙ h.below j b;
}

-- one word written before others
pub span_put : (w : List ℕ) (top v e : ℕ) → top < e → top < length w → span (set w top v) top e ≡ v ∷ span w (top + 1) e
span_put w top v e h l =
    span_append (set w top v) top (top + 1) e (omega arith) (omega arith)
    ∙ ap₂ {C = List ℕ} (λ (x y : List ℕ). x ++ y)
    (span_set w top top v (omega arith) l ∙ ap (λ (x : List ℕ). x ++ (v ∷ [])) (span_none w top top (omega arith)))
    (span_before w top v (top + 1) e (omega arith))

-- one word, and two
pub span_one : (w : List ℕ) (top v : ℕ) → top < length w → span (set w top v) top (top + 1) ≡ v ∷ []
span_one w top v l = span_put w top v (top + 1) (omega arith) l ∙ ap (λ (x : List ℕ). v ∷ x) (span_none w (top + 1) (top + 1) (omega arith))

pub span_two : (w : List ℕ) (top u v : ℕ) → top + 1 < length w → span (set (set w top u) (top + 1) v) top (top + 2) ≡ u ∷ v ∷ []
span_two w top u v l =
    let z = length-set w top u in
    ap (span (set (set w top u) (top + 1) v) top) (omega arith)
    ∙ span_set (set w top u) top (top + 1) v (omega arith) (omega arith)
    ∙ ap (λ (x : List ℕ). x ++ (v ∷ [])) (span_one w top u (omega arith))
