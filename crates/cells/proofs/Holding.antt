-- Laws of `Holds`: a list's numbers stand in a slice from a place on. Assumes nothing.
use mathlib.Core.Path.{◌≡◌, refl, sym, ap, ap₂, ◌∙◌, subst}
use Prim.Native.Nat.{ℕ, suc, ◌+◌, ◌<◌}
use native.Mathlib.Omega.{arith}
use mathlib.Core.List.{List, [], ◌∷◌, ◌++◌}
use lib.ListN.{length, get_or}
use lib.Seq.{get_or-append-add}
use Rattle.cells.specs.Part.{cell}
use Rattle.cells.proofs.Parts.{run_get_d, run_ext}
use Rattle.cells.specs.Placed.{Holds}

pub holds_none : (w : List ℕ) (a : ℕ) → Holds w a []
holds_none w a = record { is = refl }

-- at an equal place, and as an equal list
pub holds_place : {w : List ℕ} {a b : ℕ} {xs : List ℕ} → a ≡ b → Holds w a xs → Holds w b xs
holds_place {w} {a} {b} {xs} e h = subst (λ (k : ℕ). Holds w k xs) e h

pub holds_list : {w : List ℕ} {a : ℕ} {xs ys : List ℕ} → xs ≡ ys → Holds w a xs → Holds w a ys
holds_list {w} {a} {xs} {ys} e h = subst (λ (l : List ℕ). Holds w a l) e h

pub holds_at : {w : List ℕ} {a : ℕ} {xs : List ℕ} → Holds w a xs → (i : ℕ) → i < length xs → cell w (a + i) ≡ get_or xs i 0
holds_at {w} {a} {xs} h i lt = sym (run_get_d (cell w) a (length xs) i 0 lt) ∙ ap (λ (l : List ℕ). get_or l i 0) h.is

module _ {w : List ℕ} {a x : ℕ} {xs : List ℕ} where
  pub holds_head : Holds w a (x ∷ xs) → cell w a ≡ x
  holds_head h = ap (λ (l : List ℕ). get_or l 0 0) h.is

  pub holds_tail : Holds w a (x ∷ xs) → Holds w (suc a) xs
  holds_tail h = let e = h.is in record { is = cc }

  pub holds_cons : cell w a ≡ x → Holds w (suc a) xs → Holds w a (x ∷ xs)
  holds_cons e h = record { is = ap₂ {C = List ℕ} ◌∷◌ e h.is }

-- the parts of what is put together
pub holds_left : {w : List ℕ} {a : ℕ} (xs ys : List ℕ) → Holds w a (xs ++ ys) → Holds w a xs
holds_left {w} {a} [] ys h = holds_none w a
holds_left (x ∷ xs) ys h = holds_cons (holds_head h) (holds_left xs ys (holds_tail h))

pub holds_right : {w : List ℕ} {a : ℕ} (xs ys : List ℕ) → Holds w a (xs ++ ys) → Holds w (a + length xs) ys
holds_right [] ys h = holds_place (omega arith) h
holds_right (x ∷ xs) ys h = holds_place (omega arith) (holds_right xs ys (holds_tail h))

pub holds_both : {w : List ℕ} {a : ℕ} (xs ys : List ℕ) → Holds w a xs → Holds w (a + length xs) ys → Holds w a (xs ++ ys)
holds_both [] ys h k = holds_place (omega arith) k
holds_both (x ∷ xs) ys h k = holds_cons (holds_head h) (holds_both xs ys (holds_tail h) (holds_place (omega arith) k))

-- in a slice that is alike there
pub holds_ext : {w w' : List ℕ} {a : ℕ} {xs : List ℕ} → Holds w a xs → ((k : ℕ) → k < a + length xs → cell w' k ≡ cell w k) → Holds w' a xs
holds_ext {w} {w'} {a} {xs} h e = record { is = run_ext (cell w') (cell w) a (length xs) (λ k p q. e k q) ∙ h.is }

-- what its cells say
pub holds_from : (w : List ℕ) (a : ℕ) (xs : List ℕ) → ((i : ℕ) → i < length xs → cell w (a + i) ≡ get_or xs i 0) → Holds w a xs
holds_from w a [] h = holds_none w a
holds_from w a (x ∷ xs) h =
    holds_cons (ap (cell w) (omega arith) ∙ h 0 (omega arith))
    (holds_from w (suc a) xs (λ i lt. ap (cell w) (omega arith) ∙ h (suc i) (omega arith)))

-- in a list that ends with it
pub holds_end : (xs ys : List ℕ) → Holds (xs ++ ys) (length xs) ys
holds_end xs ys = holds_from (xs ++ ys) (length xs) ys (λ i lt. get_or-append-add xs ys i 0)
