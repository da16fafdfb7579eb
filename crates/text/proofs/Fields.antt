-- A field, by its kind. Assumes nothing.
use mathlib.Core.Path.{◌≡◌, sym, ap, ◌∙◌}
use mathlib.Core.Bool.{Bool, true, false}
use Prim.Native.Nat.{ℕ, ◌+◌, ◌≤◌, ◌<◌}
use native.Mathlib.Omega.{arith}
use native.Mathlib.Nat.{lt_of_not-le}
use mathlib.Core.List.{List, [], ◌∷◌}
use lib.ListN.{length, set, length-set}
use borrow.Author.Tests.{le-leb, lt-leb, ne_eqb}
use Rattle.rules.specs.Plain.{◌>>=◌, given}
use Rattle.rules.specs.Text.{field_of, counted, up_to, dyn_of}
use lib.Dec.{leb}
use Rattle.std.specs.Prelude as std
use Rattle.std.specs.Prelude.{None, Some}
use Rattle.text.specs.Reads.{span, num_of, Number, Word, FieldRoom, Element, Listed, Bounded, Dyned, Signed, Named, Field}
use Rattle.text.proofs.Leaves.{number_some}
use Rattle.text.proofs.Lists.{wrote_at, wrote_none, wrote_one, wrote_two}
use mathlib.Core.Option.{Option, some}

-- a number of at most m
is_bounded : (s : List ℕ) (from to most : ℕ) (a : std.Option ℕ) → Number s from to a → (o : std.Option ℕ) → a ≡ o → up_to most (span s from to) ≡ (num_of o >>= (λ (n : ℕ). given (leb n most) (n ∷ [])))
is_bounded s from to most a p o q = ap (λ (m : Option ℕ). m >>= (λ (n : ℕ). given (leb n most) (n ∷ []))) (sym p.is ∙ ap num_of q)

module _ {s : List ℕ} {from to most top : ℕ} {w : List ℕ} {a : std.Option ℕ} (p : Number s from to a) where
  pub bounded_none : a ≡ None → Bounded s from to most top w w None
  bounded_none q = record { wrote = wrote_none (is_bounded s from to most a p None q) }

  module _ {v : ℕ} (q : a ≡ Some v) where
    pub bounded_big : most < v → Bounded s from to most top w w None
    bounded_big h = record { wrote = wrote_none (is_bounded s from to most a p (Some v) q ∙ simp (lt-leb v most h)) }

    pub bounded_one : FieldRoom s from to w top → v ≤ most → Bounded s from to most top w (set w top v) (Some (top + 1))
    bounded_one room h = record { wrote = wrote_one (is_bounded s from to most a p (Some v) q ∙ simp (le-leb v most h)) (omega arith) (omega (arith, room.room)) }

-- an id, or none
module _ {s : List ℕ} {from to top : ℕ} {w : List ℕ} {b : Bool} (room : FieldRoom s from to w top) (h : Word s from to (45 ∷ []) b) where
  pub dyn_none : b ≡ true → Dyned s from to top w (set w top 0) (Some (top + 1))
  dyn_none e = record { wrote = wrote_one (simp (sym h.is ∙ e)) (omega arith) (omega (arith, room.room)) }

  module _ {a : std.Option ℕ} (e : b ≡ false) (p : Number s from to a) where
    is_dyn : (o : std.Option ℕ) → a ≡ o → dyn_of (span s from to) ≡ counted 1 (num_of o >>= (λ (n : ℕ). some (n ∷ [])))
    is_dyn o q = simp (sym h.is ∙ e) (ap (λ (m : Option ℕ). counted 1 (m >>= (λ (n : ℕ). some (n ∷ [])))) (sym p.is ∙ ap num_of q))

    pub dyn_bad : a ≡ None → Dyned s from to top w w None
    dyn_bad q = record { wrote = wrote_none (is_dyn None q) }

    module _ {v : ℕ} (q : a ≡ Some v) where
      bytes : from < to
      bytes = lt_of_not-le (number_some p q)

      dyn_fits : top + 1 < length w
      dyn_fits = let z = bytes in omega (arith, room.room)

      pub dyn_place_lem : top + 1 < length (set w top 1)
      dyn_place_lem = simp length-set dyn_fits

      pub dyn_some : Dyned s from to top w (set (set w top 1) (top + 1) v) (Some (top + 2))
      dyn_some = record { wrote = wrote_two (is_dyn (Some v) q) (let z = bytes in omega arith) dyn_fits }

-- a sign
module _ {s : List ℕ} {from to top : ℕ} {w : List ℕ} {b : Bool} (room : FieldRoom s from to w top) (h : Word s from to (43 ∷ []) b) where
  pub sign_plus : b ≡ true → Signed s from to top w (set w top 0) (Some (top + 1))
  sign_plus e = record { wrote = wrote_one (simp (sym h.is ∙ e)) (omega arith) (omega (arith, room.room)) }

  module _ {d : Bool} (e : b ≡ false) (k : Word s from to (45 ∷ []) d) where
    pub sign_minus : d ≡ true → Signed s from to top w (set w top 1) (Some (top + 1))
    sign_minus q = record { wrote = wrote_one (simp (sym h.is ∙ e, sym k.is ∙ q)) (omega arith) (omega (arith, room.room)) }

    pub sign_bad : d ≡ false → Signed s from to top w w None
    sign_bad q = record { wrote = wrote_none (simp (sym h.is ∙ e, sym k.is ∙ q)) }

-- a field
module _ {s : List ℕ} {from to kind top : ℕ} {w w' : List ℕ} {r : std.Option ℕ} where
  pub field_number : kind ≡ 0 → Element s from to 1 top w w' r → Field s from to kind top w w' r
  unfolding field_of
  field_number e p = record { wrote = wrote_at (ap (λ (k : ℕ). field_of k (span s from to)) e) (omega arith) p.wrote }

  pub field_code : kind ≡ 1 → Bounded s from to 31 top w w' r → Field s from to kind top w w' r
  unfolding field_of
  field_code e p = record { wrote = wrote_at (ap (λ (k : ℕ). field_of k (span s from to)) e) (omega arith) p.wrote }

  pub field_flag : kind ≡ 2 → Bounded s from to 1 top w w' r → Field s from to kind top w w' r
  unfolding field_of
  field_flag e p = record { wrote = wrote_at (ap (λ (k : ℕ). field_of k (span s from to)) e) (omega arith) p.wrote }

  pub field_list : kind ≡ 3 → Listed s from to 1 top w w' r → Field s from to kind top w w' r
  unfolding field_of
  field_list e p = record { wrote = wrote_at (ap (λ (k : ℕ). field_of k (span s from to)) e) (omega arith) p.wrote }

  pub field_dyn : kind ≡ 4 → Dyned s from to top w w' r → Field s from to kind top w w' r
  unfolding field_of
  field_dyn e p = record { wrote = wrote_at (ap (λ (k : ℕ). field_of k (span s from to)) e) (omega arith) p.wrote }

  pub field_fields : kind ≡ 5 → Listed s from to 2 top w w' r → Field s from to kind top w w' r
  unfolding field_of
  field_fields e p = record { wrote = wrote_at (ap (λ (k : ℕ). field_of k (span s from to)) e) (omega arith) p.wrote }

  pub field_sign : kind ≡ 6 → Signed s from to top w w' r → Field s from to kind top w w' r
  unfolding field_of
  field_sign e p = record { wrote = wrote_at (ap (λ (k : ℕ). field_of k (span s from to)) e) (omega arith) p.wrote }

  pub field_name : kind ≡ 7 → Named s from to top w w' r → Field s from to kind top w w' r
  unfolding field_of
  field_name e p = record { wrote = wrote_at (ap (λ (k : ℕ). field_of k (span s from to)) e) (omega arith) p.wrote }

pub field_none : {s : List ℕ} {from to kind top : ℕ} {w : List ℕ} → 8 ≤ kind → Field s from to kind top w w None
unfolding field_of
field_none {s} {from} {to} {kind} h = record {
  wrote = wrote_none (simp (
    ne_eqb kind 0 (λ z. omega arith),
    ne_eqb kind 1 (λ z. omega arith),
    ne_eqb kind 2 (λ z. omega arith),
    ne_eqb kind 3 (λ z. omega arith),
    ne_eqb kind 4 (λ z. omega arith),
    ne_eqb kind 5 (λ z. omega arith),
    ne_eqb kind 6 (λ z. omega arith),
    ne_eqb kind 7 (λ z. omega arith),
  ));
}
