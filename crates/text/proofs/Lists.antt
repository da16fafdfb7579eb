-- A list of elements, one by one. Assumes nothing.
use mathlib.Core.Path.{◌≡◌, refl, sym, ap, ◌∙◌, subst}
use mathlib.Core.Bool.{Bool, true, false}
use Prim.Native.Nat.{ℕ, ◌+◌, ◌-◌, ◌/◌, ◌≤◌, ◌<◌, ◌^◌}
use native.Mathlib.Omega.{arith}
use native.Mathlib.Nat.{lt_of_not-le, eq-or-lt_of_le, div-le_self}
use native.Mathlib.Numerals.{lt_of_le_of_ne}
use mathlib.Core.Logic.{⊎_elim}
use mathlib.Core.List.{List, [], ◌∷◌, ◌++◌, append-nil}
use lib.ListN.{length, set, length-set}
use borrow.Author.Tests.{eq-eqb, ne_eqb}
use Rattle.rules.specs.Plain.{◌>>=◌}
use Rattle.rules.specs.Text.{pieces, number, elements, counted, list_of, keyed}
use Rattle.std.specs.Prelude as std
use Rattle.std.specs.Prelude.{None, Some}
use Rattle.text.specs.Reads.{span, num_of, Number, Word, Room, FieldRoom, Seek, Above, Ends, got_words, Wrote, Keyed, element_of, Element, Elements, Listed}
use Rattle.text.proofs.Spans.{span_none, span_same, span_append, span_length, span_put, span_one, span_two, above_none, above_set, above_over}
use Rattle.text.proofs.Follow.{follow, follow_nil, follow_more}
use Rattle.text.proofs.Leaves.{cut_some, number_some}
use mathlib.Core.Option.{Option, none, some}

-- what was written, said otherwise, or as more words at most
pub wrote_at : {m m' : Option (List ℕ)} {most most' top : ℕ} {w w' : List ℕ} {r : std.Option ℕ} → m ≡ m' → most' ≤ most → Wrote m' most' top w w' r → Wrote m most top w w' r
wrote_at {m} {m'} {most} {most'} {top} {w} {w'} {r} e le p = record { above = p.above; is = p.is ∙ sym e; ends = more r p.ends }
  where
    more : (r : std.Option ℕ) → Ends top most' r → Ends top most r
    more None e = tt
    more (Some t) e = (e.0, omega (arith, e.1))

pub wrote_none : {m : Option (List ℕ)} {most top : ℕ} {w : List ℕ} → m ≡ none → Wrote m most top w w None
wrote_none e = record { above = above_none; is = sym e; ends = tt }

pub wrote_one : {m : Option (List ℕ)} {most top v : ℕ} {w : List ℕ} → m ≡ some (v ∷ []) → 1 ≤ most → top < length w → Wrote m most top w (set w top v) (Some (top + 1))
wrote_one {m} {most} {top} {v} {w} e h l = record {
  above = above_set top v above_none (omega arith);
  is = ap (λ (x : List ℕ). some x) (span_one w top v l) ∙ sym e;
  ends = (omega arith, omega arith);
}

pub wrote_two : {m : Option (List ℕ)} {most top u v : ℕ} {w : List ℕ} → m ≡ some (u ∷ v ∷ []) → 2 ≤ most → top + 1 < length w → Wrote m most top w (set (set w top u) (top + 1) v) (Some (top + 2))
wrote_two {m} {most} {top} {u} {v} {w} e h l = record {
  above = above_set (top + 1) v (above_set top u above_none (omega arith)) (omega arith);
  is = ap (λ (x : List ℕ). some x) (span_two w top u v l) ∙ sym e;
  ends = (omega arith, omega arith);
}

-- a key and an id
module _ {s : List ℕ} {from to e : ℕ} (x : Seek s from to 58 e) where
  pub keyed_alone : {top : ℕ} {w : List ℕ} → e ≡ to → Keyed s from to top w w None
  keyed_alone h = record { wrote = wrote_none (ap keyed (x.last h)) }

  module _ {f : ℕ} (parted : e ≡ to → ⊥) (y : Seek s (e + 1) to 58 f) where
    before : e < to
    before = lt_of_le_of_ne x.high parted

    pub keyed_many : {top : ℕ} {w : List ℕ} → (f ≡ to → ⊥) → Keyed s from to top w w None
    unfolding pieces
    keyed_many h = record {
      wrote = wrote_none (ap keyed (x.here before ∙ ap (λ (l : List (List ℕ)). span s from e ∷ l) (y.here (lt_of_le_of_ne y.high h)))
          ∙ cut_some (λ (q : List (List ℕ)). keyed (span s from e ∷ span s (e + 1) f ∷ q) ≡ none) (λ p ps. refl) 58 [] (span s (f + 1) to));
    }

    module _ {a : std.Option ℕ} (h : f ≡ to) (p : Number s from e a) where
      two : keyed (pieces 58 (span s from to)) ≡ (number (span s from e) >>= (λ (i : ℕ). number (span s (e + 1) f) >>= (λ (j : ℕ). some (i ∷ j ∷ []))))
      two = ap keyed (x.here before ∙ ap (λ (l : List (List ℕ)). span s from e ∷ l) (y.last h))

      pub keyed_no_key : {top : ℕ} {w : List ℕ} → a ≡ None → Keyed s from to top w w None
      keyed_no_key q = record {
        wrote = wrote_none (two ∙ ap (λ (o : Option ℕ). o >>= (λ (i : ℕ). number (span s (e + 1) f) >>= (λ (j : ℕ). some (i ∷ j ∷ [])))) (sym p.is ∙ ap num_of q));
      }

      module _ {b : std.Option ℕ} {k : ℕ} (key : a ≡ Some k) (r : Number s (e + 1) f b) where
        three : keyed (pieces 58 (span s from to)) ≡ (num_of b >>= (λ (j : ℕ). some (k ∷ j ∷ [])))
        three =
            two
            ∙ ap (λ (o : Option ℕ). o >>= (λ (i : ℕ). number (span s (e + 1) f) >>= (λ (j : ℕ). some (i ∷ j ∷ [])))) (sym p.is ∙ ap num_of key)
            ∙ ap (λ (o : Option ℕ). o >>= (λ (j : ℕ). some (k ∷ j ∷ []))) (sym r.is)

        pub keyed_no_id : {top : ℕ} {w : List ℕ} → b ≡ None → Keyed s from to top w w None
        keyed_no_id q = record { wrote = wrote_none (three ∙ ap (λ (o : std.Option ℕ). num_of o >>= (λ (j : ℕ). some (k ∷ j ∷ []))) q) }

        module _ {top i : ℕ} {w : List ℕ} (room : Room s from to w top) (id : b ≡ Some i) where
          keyed_fits : top + 1 < length w
          keyed_fits =
              let key-bytes : from < e = lt_of_not-le (number_some p key) in
              let id-bytes : e + 1 < f = lt_of_not-le (number_some r id) in
              omega (arith, room.room)

          pub keyed_place : top + 1 < length (set w top k)
          keyed_place = simp length-set keyed_fits

          pub keyed_done : Keyed s from to top w (set (set w top k) (top + 1) i) (Some (top + 2))
          keyed_done =
              let key-bytes : from < e = lt_of_not-le (number_some p key) in
              let id-bytes : e + 1 < f = lt_of_not-le (number_some r id) in
              record { wrote = wrote_two (three ∙ ap (λ (o : std.Option ℕ). num_of o >>= (λ (j : ℕ). some (k ∷ j ∷ []))) id) (omega arith) keyed_fits }

-- an element
is_single : (s : List ℕ) (from to each : ℕ) (a : std.Option ℕ) → (each ≡ 2 → ⊥) → Number s from to a → (o : std.Option ℕ) → a ≡ o → element_of each (span s from to) ≡ (num_of o >>= (λ (n : ℕ). some (n ∷ [])))
is_single s from to each a e p o q = simp (ne_eqb each 2 e) (ap (λ (m : Option ℕ). m >>= (λ (n : ℕ). some (n ∷ []))) (sym p.is ∙ ap num_of q))

pub element_fits : {s : List ℕ} {from to top v : ℕ} {w : List ℕ} {a : std.Option ℕ} → Room s from to w top → Number s from to a → a ≡ Some v → top < length w
element_fits {s} {from} {to} room p q = let bytes : from < to = lt_of_not-le (number_some p q) in omega (arith, room.room)

module _ {s : List ℕ} {from to each top : ℕ} {w : List ℕ} where
  pub element_keyed : {w' : List ℕ} {r : std.Option ℕ} → each ≡ 2 → Keyed s from to top w w' r → Element s from to each top w w' r
  element_keyed e p = record { wrote = wrote_at (simp (eq-eqb each 2 e)) (omega arith) p.wrote }

  module _ {a : std.Option ℕ} (e : each ≡ 2 → ⊥) (p : Number s from to a) where
    pub element_none : a ≡ None → Element s from to each top w w None
    element_none q = record { wrote = wrote_none (is_single s from to each a e p None q) }

    module _ {v : ℕ} (room : Room s from to w top) (q : a ≡ Some v) where
      pub element_one : Element s from to each top w (set w top v) (Some (top + 1))
      element_one =
          let bytes : from < to = lt_of_not-le (number_some p q) in
          record { wrote = wrote_one (is_single s from to each a e p (Some v) q) (omega arith) (element_fits room p q) }

-- the words got so far, and what is left to read, are the whole list
pub record Listing (s : List ℕ) (from to each top : ℕ) (w₀ w : List ℕ) (i t : ℕ) : Type 0 where
  pub low : from ≤ i
  pub high : i ≤ to
  pub begun : top ≤ t
  pub short : t ≤ top + (i - from)
  pub above : Above top w₀ w
  pub is : follow (span w top t) (elements (element_of each) (pieces 44 (span s i to))) ≡ elements (element_of each) (pieces 44 (span s from to))

pub elements_start : {s : List ℕ} {from to each top : ℕ} {w : List ℕ} → Room s from to w top → Listing s from to each top w w from top
elements_start {s} {from} {to} {each} {top} {w} h = record {
  low = omega arith;
  high = h.order;
  begun = omega arith;
  short = omega arith;
  above = above_none;
  is =
      ap (λ (l : List ℕ). follow l (elements (element_of each) (pieces 44 (span s from to)))) (span_none w top top (omega arith))
      ∙ follow_nil (elements (element_of each) (pieces 44 (span s from to)));
}

module _ {s : List ℕ} {from to each top : ℕ} {w₀ w : List ℕ} {i t e : ℕ} (inv : Listing s from to each top w₀ w i t) (k : Seek s i to 44 e) where
  pub elements_room : Room s from to w₀ top → Room s i e w t
  elements_room h = record {
    order = k.low;
    within = omega (arith, k.high, h.within);
    room = let l = inv.above.same_length in omega (arith, h.room, inv.short, inv.low, k.low, k.high);
  }

  module _ {w' : List ℕ} {r : std.Option ℕ} (p : Element s i e each t w w' r) where
    -- the element's outcome, with the pieces after it
    then : (ps : List (List ℕ)) (m : Option (List ℕ)) → pieces 44 (span s i to) ≡ span s i e ∷ ps → got_words t w' r ≡ m
        → follow (span w top t) (m >>= (λ (x : List ℕ). elements (element_of each) ps >>= (λ (xs : List ℕ). some (x ++ xs))))
        ≡ elements (element_of each) (pieces 44 (span s from to))
    then ps m h q =
        ap (λ (o : Option (List ℕ)). follow (span w top t) (o >>= (λ (x : List ℕ). elements (element_of each) ps >>= (λ (xs : List ℕ). some (x ++ xs))))) (sym q ∙ p.wrote.is)
        ∙ ap (λ (l : List (List ℕ)). follow (span w top t) (elements (element_of each) l)) (sym h)
        ∙ inv.is

    above_too : Above top w₀ w'
    above_too = above_over inv.above p.wrote.above inv.begun

    pub elements_bad : r ≡ None → Elements s from to each top w₀ w' None
    elements_bad q = record {
      wrote = record {
        above = above_too;
        is =
            ⊎_elim (λ h. then [] none (k.last h) (ap (got_words t w') q)) (λ h. then (pieces 44 (span s (e + 1) to)) none (k.here h) (ap (got_words t w') q))
            (eq-or-lt_of_le k.high);
        ends = tt;
      };
    }

    module _ {u : ℕ} (q : r ≡ Some u) where
      bounds : Ends t (e - i) (Some u)
      bounds = subst (Ends t (e - i)) q p.wrote.ends

      written : span w' top u ≡ span w top t ++ span w' t u
      written = span_append w' top t u inv.begun bounds.0 ∙ ap (λ (x : List ℕ). x ++ span w' t u) (span_same t w w' top t p.wrote.above (omega arith))

      grown : (ps : List (List ℕ)) → pieces 44 (span s i to) ≡ span s i e ∷ ps → follow (span w' top u) (elements (element_of each) ps) ≡ elements (element_of each) (pieces 44 (span s from to))
      grown ps h =
          ap (λ (l : List ℕ). follow l (elements (element_of each) ps)) written
          ∙ sym (follow_more (span w top t) (span w' t u) (elements (element_of each) ps))
          ∙ then ps (some (span w' t u)) h (ap (got_words t w') q)

      pub elements_last : e ≡ to → Elements s from to each top w₀ w' (Some u)
      elements_last h = record {
        wrote = record {
          above = above_too;
          is = ap (λ (l : List ℕ). some l) (sym (append-nil (span w' top u))) ∙ grown [] (k.last h);
          ends = (omega (arith, inv.begun, bounds.0), omega (arith, inv.short, inv.low, bounds.1, k.low));
        };
      }

      pub elements_more : (e ≡ to → ⊥) → Listing s from to each top w₀ w' (e + 1) u
      elements_more h =
          let lt : e < to = lt_of_le_of_ne k.high h in
          record {
            low = omega (arith, inv.low, k.low);
            high = omega arith;
            begun = omega (arith, inv.begun, bounds.0);
            short = omega (arith, inv.short, inv.low, k.low, bounds.1);
            above = above_too;
            is = grown (pieces 44 (span s (e + 1) to)) (k.here lt);
          }

-- a list
pub list_room : {s : List ℕ} {from to top : ℕ} {w : List ℕ} → FieldRoom s from to w top → Room s from to w (top + 1)
list_room h = record { order = h.order; within = h.within; room = omega (arith, h.room) }

module _ {s : List ℕ} {from to each top : ℕ} {w : List ℕ} {b : Bool} (room : FieldRoom s from to w top) (h : Word s from to (45 ∷ []) b) where
  pub list_dash : b ≡ true → Listed s from to each top w (set w top 0) (Some (top + 1))
  list_dash e = record { wrote = wrote_one (simp (sym h.is ∙ e)) (omega arith) (omega (arith, room.room)) }

  module _ {w' : List ℕ} {r : std.Option ℕ} (e : b ≡ false) (p : Elements s from to each (top + 1) w w' r) where
    is_counted : (m : Option (List ℕ)) → got_words (top + 1) w' r ≡ m → list_of each (element_of each) (span s from to) ≡ counted each m
    is_counted m q = simp (sym h.is ∙ e) (ap (counted each) (sym p.wrote.is ∙ q))

    pub list_bad : r ≡ None → Listed s from to each top w w' None
    list_bad q = record { wrote = record { above = above_over above_none p.wrote.above (omega arith); is = sym (is_counted none (ap (got_words (top + 1) w') q)); ends = tt } }

    module _ {t : ℕ} (q : r ≡ Some t) where
      list_bounds : Ends (top + 1) (to - from) (Some t)
      list_bounds = subst (Ends (top + 1) (to - from)) q p.wrote.ends

      pub list_low : top + 1 ≤ t
      list_low = list_bounds.0

      pub list_small : (t - (top + 1)) / each < 2 ^ 32
      list_small = let z = div-le_self (t - (top + 1)) each in omega (arith, list_bounds.1, room.within, room.short)

      pub list_place : top < length w'
      list_place = omega (arith, p.wrote.above.same_length, room.room)

      pub list_done : Listed s from to each top w (set w' top ((t - (top + 1)) / each)) (Some t)
      list_done = record {
        wrote = record {
          above = above_set top ((t - (top + 1)) / each) (above_over above_none p.wrote.above (omega arith)) (omega arith);
          is =
              ap (λ (x : List ℕ). some x)
              (span_put w' top ((t - (top + 1)) / each) t (omega (arith, list_bounds.0)) list_place
              ∙ ap (λ (n : ℕ). n / each ∷ span w' (top + 1) t) (sym (span_length w' (top + 1) t)))
              ∙ sym (is_counted (some (span w' (top + 1) t)) (ap (got_words (top + 1) w') q));
          ends = (omega (arith, list_bounds.0), omega (arith, list_bounds.1));
        };
      }
