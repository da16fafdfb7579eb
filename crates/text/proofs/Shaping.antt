-- Fields by their shape. Assumes nothing.
use mathlib.Core.Path.{◌≡◌, refl, sym, ap, ap₂, ◌∙◌, subst}
use Prim.Native.Nat.{ℕ, ◌+◌, ◌-◌, ◌*◌, ◌≤◌, ◌<◌}
use native.Mathlib.Omega.{arith}
use native.Mathlib.Nat.{eq-or-lt_of_le}
use mathlib.Core.Logic.{⊎_elim}
use mathlib.Core.List.{List, [], ◌∷◌, ◌++◌, append-nil}
use lib.ListN.{length, set}
use borrow.Author.Tests.{lt-ltb, le-ltb}
use Rattle.cells.specs.Part.{cell, part}
use Rattle.cells.proofs.Parts.{run_next, run_none, run_whole}
use Rattle.rules.specs.Plain.{◌>>=◌}
use Rattle.rules.specs.Text.{pieces, by_shape, tagged}
use Rattle.std.specs.Prelude as std
use Rattle.std.specs.Prelude.{None, Some}
use Rattle.text.specs.Reads.{span, Seek, Above, Ends, got_words, left, FieldRoom, ShapeRoom, Field, Shaped}
use Rattle.text.specs.Keywords.{shape_at}
use Rattle.text.proofs.Leaves.{cut_some}
use Rattle.text.proofs.Follow.{follow, follow_nil, follow_more}
use Rattle.text.proofs.Spans.{span_none, span_same, span_append, span_put, above_none, above_set, above_over}
use mathlib.Core.Option.{Option, none, some}

-- the fields left
pub pieces_here : (s : List ℕ) (i to e : ℕ) → Seek s i to 9 e → pieces 9 (span s i to) ≡ span s i e ∷ left s (e + 1) to
pieces_here s i to e k =
    let last : e ≡ to → pieces 9 (span s i to) ≡ span s i e ∷ left s (e + 1) to = λ q. k.last q ∙ simp (lt-ltb to (e + 1) (omega arith)) in
    let here : e < to → pieces 9 (span s i to) ≡ span s i e ∷ left s (e + 1) to = λ q. k.here q ∙ simp (le-ltb to (e + 1) (omega arith)) in
    ⊎_elim last here (eq-or-lt_of_le k.high)

left_here : (s : List ℕ) (i to e : ℕ) → i ≤ to → Seek s i to 9 e → left s i to ≡ span s i e ∷ left s (e + 1) to
left_here s i to e h k = simp (le-ltb to i h) (pieces_here s i to e k)

left_none : (s : List ℕ) (i to : ℕ) → to < i → left s i to ≡ []
left_none s i to h = simp (lt-ltb to i h)

-- what was written, and the fields left, are the whole
pub record Shaping (s : List ℕ) (from to : ℕ) (b : List ℕ) (kind n top : ℕ) (w₀ w : List ℕ) (i t k : ℕ) : Type 0 where
  pub low : from ≤ i
  pub high : i ≤ to + 1
  pub begun : top + 1 ≤ t
  pub short : t ≤ top + 1 + (i - from)
  pub above : Above (top + 1) w₀ w
  pub is : follow (span w (top + 1) t) (by_shape (part b (17 * kind + 10 + k) (n - k)) (left s i to)) ≡ by_shape (shape_at b kind) (left s from to)

pub shape_start : {s : List ℕ} {from to : ℕ} {b : List ℕ} {kind n top : ℕ} {w : List ℕ} → n ≡ cell b (17 * kind + 9) → ShapeRoom s from to w top → Shaping s from to b kind n top w w from (top + 1) 0
shape_start {s} {from} {to} {b} {kind} {n} {top} {w} e h = record {
  low = omega arith;
  high = h.order;
  begun = omega arith;
  short = omega arith;
  above = above_none;
  is =
      ap₂ {C = Option (List ℕ)} (λ (l q : List ℕ). follow l (by_shape q (left s from to))) (span_none w (top + 1) (top + 1) (omega arith))
      (run_whole (cell b) (17 * kind + 10) n ∙ ap (part b (17 * kind + 10)) e)
      ∙ follow_nil (by_shape (shape_at b kind) (left s from to));
}

shape_bad : {s : List ℕ} {from to : ℕ} {sh : List ℕ} {top tag : ℕ} {w₀ w : List ℕ} → Above (top + 1) w₀ w → by_shape sh (left s from to) ≡ none → Shaped s from to tag sh top w₀ w None
shape_bad {s} {from} {to} {sh} {top} {tag} a q = record { wrote = record { above = above_over above_none a (omega arith); is = sym (ap (tagged tag) q); ends = tt } }

module _ {s : List ℕ} {from to : ℕ} {b : List ℕ} {kind n top : ℕ} {w₀ w : List ℕ} {i t k : ℕ} (inv : Shaping s from to b kind n top w₀ w i t k) where
  at_end_lem : n ≤ k → follow (span w (top + 1) t) (by_shape [] (left s i to)) ≡ by_shape (shape_at b kind) (left s from to)
  at_end_lem h = ap (λ (q : List ℕ). follow (span w (top + 1) t) (by_shape q (left s i to))) (sym (run_none (cell b) (17 * kind + 10) n k h)) ∙ inv.is

  pub shape_few : k < n → to < i → Shaped s from to kind (shape_at b kind) top w₀ w None
  shape_few h q = shape_bad inv.above
      (sym (ap₂ {C = Option (List ℕ)} (λ (x : List ℕ) (y : List (List ℕ)). follow (span w (top + 1) t) (by_shape x y))
      (sym (run_next (cell b) (17 * kind + 10) n k h)) (sym (left_none s i to q)) ∙ inv.is))

  pub shape_done : ShapeRoom s from to w₀ top → n ≤ k → to < i → Shaped s from to kind (shape_at b kind) top w₀ (set w top kind) (Some t)
  shape_done room h q = record {
    wrote = record {
      above = above_set top kind (above_over above_none inv.above (omega arith)) (omega arith);
      is =
          let l = inv.above.same_length in
          let e : by_shape (shape_at b kind) (left s from to) ≡ some (span w (top + 1) t) =
          sym (at_end_lem h) ∙ ap (λ (y : List (List ℕ)). follow (span w (top + 1) t) (by_shape [] y)) (left_none s i to q) ∙ ap (λ (x : List ℕ). some x) (append-nil (span w (top + 1) t)) in
          ap (λ (x : List ℕ). some x) (span_put w top kind t (omega (arith, inv.begun)) (omega (arith, room.room))) ∙ sym (ap (tagged kind) e);
      ends = (omega (arith, inv.begun), omega (arith, inv.short, inv.high, inv.low));
    };
  }

  pub shape_many : n ≤ k → i ≤ to → Shaped s from to kind (shape_at b kind) top w₀ w None
  unfolding pieces
  shape_many h le =
      let now : left s i to ≡ pieces 9 (span s i to) = simp (le-ltb to i le) in
      shape_bad inv.above
      (sym (at_end_lem h) ∙ ap (λ (z : List (List ℕ)). follow (span w (top + 1) t) (by_shape [] z)) now
      ∙ ap (follow (span w (top + 1) t)) (cut_some (λ (q : List (List ℕ)). by_shape [] q ≡ none) (λ p ps. refl) 9 [] (span s i to)))

  pub shape_place : ShapeRoom s from to w₀ top → top < length w
  shape_place room = let l = inv.above.same_length in omega (arith, room.room)

  module _ {e : ℕ} (le : i ≤ to) (y : Seek s i to 9 e) where
    pub shape_room : ShapeRoom s from to w₀ top → FieldRoom s i e w t
    shape_room room = record {
      order = y.low;
      within = omega (arith, y.high, room.within);
      short = room.short;
      room = let l = inv.above.same_length in omega (arith, room.room, inv.short, inv.low, y.low, y.high);
    }

    module _ {w' : List ℕ} {r : std.Option ℕ} (lt : k < n) (p : Field s i e (cell b (17 * kind + 10 + k)) t w w' r) where
      abbrev ahead : Option (List ℕ) → Option (List ℕ)
      ahead m = m >>= (λ (x : List ℕ). by_shape (part b (17 * kind + 10 + (k + 1)) (n - (k + 1))) (left s (e + 1) to) >>= (λ (xs : List ℕ). some (x ++ xs)))

      turn : (m : Option (List ℕ)) → got_words t w' r ≡ m → follow (span w (top + 1) t) (ahead m) ≡ by_shape (shape_at b kind) (left s from to)
      turn m q =
          ap (λ (o : Option (List ℕ)). follow (span w (top + 1) t) (ahead o)) (sym q ∙ p.wrote.is)
          ∙ ap₂ {C = Option (List ℕ)} (λ (x : List ℕ) (z : List (List ℕ)). follow (span w (top + 1) t) (by_shape x z)) (sym (run_next (cell b) (17 * kind + 10) n k lt)) (sym (left_here s i to e le y))
          ∙ inv.is

      above_too : Above (top + 1) w₀ w'
      above_too = above_over inv.above p.wrote.above inv.begun

      pub shape_no : r ≡ None → Shaped s from to kind (shape_at b kind) top w₀ w' None
      shape_no q = shape_bad above_too (sym (turn none (ap (got_words t w') q)))

      pub shape_more : {u : ℕ} → r ≡ Some u → Shaping s from to b kind n top w₀ w' (e + 1) u (k + 1)
      shape_more {u} q =
          let d : Ends t (e - i + 1) (Some u) = subst (Ends t (e - i + 1)) q p.wrote.ends in
          record {
            low = omega (arith, inv.low, y.low);
            high = omega (arith, y.high);
            begun = omega (arith, inv.begun, d.0);
            short = omega (arith, inv.short, inv.low, y.low, d.1);
            above = above_too;
            is =
                ap (λ (l : List ℕ). follow l (by_shape (part b (17 * kind + 10 + (k + 1)) (n - (k + 1))) (left s (e + 1) to)))
                (span_append w' (top + 1) t u inv.begun d.0 ∙ ap (λ (x : List ℕ). x ++ span w' t u) (span_same t w w' (top + 1) t p.wrote.above (omega arith)))
                ∙ sym (follow_more (span w (top + 1) t) (span w' t u) (by_shape (part b (17 * kind + 10 + (k + 1)) (n - (k + 1))) (left s (e + 1) to)))
                ∙ turn (some (span w' t u)) (ap (got_words t w') q);
          }
