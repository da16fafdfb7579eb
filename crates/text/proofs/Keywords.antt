-- The kind of a line, by its keyword. Assumes nothing.
use mathlib.Core.Path.{◌≡◌, refl, sym, ap, ◌∙◌, subst}
use mathlib.Core.Bool.{Bool, true, false}
use Prim.Native.Nat.{ℕ, zero, suc, ◌+◌, ◌-◌, ◌*◌, ◌≤◌, ◌<◌}
use native.Mathlib.Omega.{arith}
use native.Mathlib.Numerals.{add-one}
use native.Mathlib.Nat.{not-suc-le-zero, le_of_suc-le-suc, eq-or-lt_of_le}
use mathlib.Core.Logic.{⊎_elim}
use lib.Dec.{leb, eqb}
use lib.Pointwise.{pointwise}
use lib.ListN.{length, take, drop}
use borrow.Author.Tests.{leb-true}
use mathlib.Core.List.{List, ◌∷◌}
use Rattle.cells.specs.Part.{run, cell, part, eq_list}
use Rattle.cells.proofs.Parts.{part_eq, run_next, run_none, run_whole}
use Rattle.cells.proofs.Choices.{true_false}
use Rattle.rules.specs.Plain.{both}
use Rattle.rules.specs.Text.{Kind, record_in, by_word, row_of}
use Rattle.std.specs.Prelude as std
use Rattle.std.specs.Prelude.{None, Some}
use Rattle.text.specs.Reads.{span, left, Word, Seek, FieldRoom, Shaped, Row}
use Rattle.text.specs.Keywords.{Slot, Slots, slots, Under, word_at, shape_at, kind_at, kinds_in, record_of, KindOf}
use Rattle.text.proofs.Lists.{wrote_at, wrote_none}
use Rattle.text.proofs.Shaping.{pieces_here}

-- a keyword compared
pub word_is : {s b : List ℕ} {from to i n : ℕ} {r : Bool} → Slot b i → from ≤ to → to ≤ length s → n ≡ cell b (17 * i)
    → r ≡ pointwise eqb (take (to - from) (drop from s)) (take ((17 * i + 1 + n) - (17 * i + 1)) (drop (17 * i + 1) b))
    → Word s from to (word_at b i) r
word_is {s} {b} {from} {to} {i} {n} f order within e h =
    let l = f.size in
    let m = f.word in
    let u : (17 * i + 1 + n) - (17 * i + 1) ≡ cell b (17 * i) = omega arith in
    record {
      is =
          h ∙ part_eq s b from to (17 * i + 1) (17 * i + 1 + n) order within (omega arith) (omega arith)
          ∙ ap (λ (x : ℕ). eq_list (span s from to) (part b (17 * i + 1) x)) u;
    }

-- each of n kinds
parts : (t : Bool) (y : Unit {0} → Bool) → both t y ≡ true → (t ≡ true) × (y tt ≡ true)
parts true y h = (refl, h)
parts false y h = true_false (sym h)

slot_in : (b : List ℕ) (n i : ℕ) → slots b n ≡ true → i < n → Slot b i
slot_in b zero i h lt = absurd (not-suc-le-zero lt)
slot_in b (suc n) i h lt =
    let p = parts (leb (17 * n + 17) (length b)) (λ _. both (leb (cell b (17 * n)) 7) (λ _. both (leb (cell b (17 * n + 9)) 7) (λ _. slots b n))) h in
    let q = parts (leb (cell b (17 * n)) 7) (λ _. both (leb (cell b (17 * n + 9)) 7) (λ _. slots b n)) p.1 in
    let r = parts (leb (cell b (17 * n + 9)) 7) (λ _. slots b n) q.1 in
    let last : Slot b n =
    record { size = leb-true (17 * n + 17) (length b) p.0; word = leb-true (cell b (17 * n)) 7 q.0; shape = leb-true (cell b (17 * n + 9)) 7 r.0 } in
    ⊎_elim (λ e. subst (Slot b) (sym e) last) (λ l. slot_in b n i r.1 l) (eq-or-lt_of_le (le_of_suc-le-suc lt))

pub slot_at : {b : List ℕ} {n i : ℕ} → Slots b n → i < n → Slot b i
slot_at {b} {n} {i} h lt = slot_in b n i h.are lt

-- the kinds from i on say the same as all
pub record Looking (b : List ℕ) (n : ℕ) (s : List ℕ) (from to i : ℕ) : Type 0 where
  pub is : (fs : List (List ℕ)) → record_in (run (kind_at b) (0 + i) (n - i)) i (span s from to) fs ≡ record_in (kinds_in b n) 0 (span s from to) fs

module _ {b : List ℕ} {n : ℕ} {s : List ℕ} {from to : ℕ} where
  pub look_start : Looking b n s from to 0
  look_start = record { is = λ fs. ap (λ (ks : List Kind). record_in ks 0 (span s from to) fs) (run_whole (kind_at b) 0 n) }

  module _ {i : ℕ} (inv : Looking b n s from to i) where
    pub look_none : n ≤ i → KindOf b n s from to None
    look_none h = record { is = λ fs. sym (ap (λ (ks : List Kind). record_in ks i (span s from to) fs) (run_none (kind_at b) 0 n i h)) ∙ inv.is fs; under = tt }

    module _ {t : Bool} (lt : i < n) (y : Word s from to (word_at b i) t) where
      abbrev others : List Kind
      others = run (kind_at b) (0 + (i + 1)) (n - (i + 1))

      all : (fs : List (List ℕ)) → record_in (kind_at b i ∷ others) i (span s from to) fs ≡ record_in (kinds_in b n) 0 (span s from to) fs
      all fs =
          let z : i ≡ 0 + i = omega arith in
          ap (λ (j : ℕ). record_in (kind_at b j ∷ others) i (span s from to) fs) z
          ∙ sym (ap (λ (ks : List Kind). record_in ks i (span s from to) fs) (run_next (kind_at b) 0 n i lt))
          ∙ inv.is fs

      pub look_found : t ≡ true → KindOf b n s from to (Some i)
      look_found e = record {
        is = λ fs. let here : record_in (kind_at b i ∷ others) i (span s from to) fs ≡ record_of b (Some i) fs = simp (sym y.is ∙ e) in sym here ∙ all fs;
        under = lt;
      }

      pub look_more : t ≡ false → Looking b n s from to (i + 1)
      look_more e = record {
        is =
            λ fs.
            let past : record_in (kind_at b i ∷ others) i (span s from to) fs ≡ record_in others (i + 1) (span s from to) fs =
            simp (sym y.is ∙ e) (ap (λ (j : ℕ). record_in others j (span s from to) fs) (sym (add-one i))) in
            sym past ∙ all fs;
      }

-- a row, by its keyword
module _ {b : List ℕ} {n : ℕ} {s : List ℕ} {from to k top : ℕ} {w : List ℕ} {m : std.Option ℕ} (h : FieldRoom s from to w top) (y : Seek s from to 9 k) (q : KindOf b n s from k m) where
  by_kind : (o : std.Option ℕ) → m ≡ o → row_of (kinds_in b n) (span s from to) ≡ record_of b o (left s (k + 1) to)
  unfolding row_of
  by_kind o e =
      ap (by_word (kinds_in b n)) (pieces_here s from to k y) ∙ sym (q.is (left s (k + 1) to)) ∙ ap (λ (x : std.Option ℕ). record_of b x (left s (k + 1) to)) e

  pub row_none : m ≡ None → Row (kinds_in b n) s from to top w w None
  row_none e = record { wrote = wrote_none (by_kind None e) }

  pub row_slot : {i : ℕ} → Slots b n → m ≡ Some i → Slot b i
  row_slot f e = slot_at f (subst (Under n) e q.under)

  pub row_some : {i : ℕ} {w' : List ℕ} {r : std.Option ℕ} → m ≡ Some i → Shaped s (k + 1) to i (shape_at b i) top w w' r → Row (kinds_in b n) s from to top w w' r
  row_some {i} e p = record { wrote = wrote_at (by_kind (Some i) e) (omega (arith, y.low, y.high)) p.wrote }
