-- A name, byte by byte. Assumes nothing.
use mathlib.Core.Path.{◌≡◌, refl, sym, ap, ap₂, ◌∙◌, subst}
use mathlib.Core.Bool.{Bool, true, false, not}
use Prim.Native.Nat.{ℕ, suc, ◌+◌, ◌-◌, ◌*◌, ◌≤◌, ◌<◌}
use native.Mathlib.Omega.{arith}
use mathlib.Core.List.{List, [], ◌∷◌, append-nil}
use lib.ListN.{length, set}
use lib.Dec.{eqb, ltb}
use mathlib.Core.Logic.{⊎_elim}
use borrow.Author.Tests.{lt-ltb, le-ltb, ltb-false, eq-eqb, ne_eqb, eqb-true, eqb-false}
use Rattle.std.proofs.lemmas.Bool.{cases_lt}
use Rattle.cells.specs.Part.{if, cell}
use Rattle.rules.specs.Plain.{given}
use Rattle.rules.specs.Text.{hex, escaped, plain, escape, put_byte, name}
use Rattle.text.specs.Escapes.{Read, bad, move, put, next, after, chars}
use Rattle.std.specs.Prelude as std
use Rattle.std.specs.Prelude.{None, Some}
use Rattle.text.proofs.Follow.{follow, follow_nil, follow_more}
use Rattle.text.proofs.Spans.{span_none, span_next, span_set, above_none, above_set}
use Rattle.text.specs.declared.Step.{Step}
use Rattle.text.specs.declared.Step.TheVariants.{Move, Put}
use Rattle.text.specs.declared.State.{State}
use Rattle.text.specs.declared.State.TheVariants.{Plain, Slash, Digit as DigitOf}
use Rattle.text.specs.Reads.{span, Above, state_of, step_of, Hex, Escaped, Fits, Small, Next, Room, Named}
use mathlib.Core.Option.{Option, none, some}

module _ {b : ℕ} where
  pub hex_digit : {d : ℕ} → 48 ≤ b → b ≤ 57 → d ≡ b - 48 → Hex b (Some d)
  unfolding hex
  hex_digit g h e = record { is = simp (le-ltb b 48 g, lt-ltb b 58 (omega arith)) e; small = omega arith }

  pub hex_letter : {d : ℕ} → 97 ≤ b → b ≤ 102 → d ≡ b - 97 → Hex b (Some (d + 10))
  unfolding hex
  hex_letter g h e = record {
    is = simp (le-ltb b 48 (omega arith), le-ltb b 58 (omega arith), le-ltb b 97 g, lt-ltb b 103 (omega arith)) (omega arith);
    small = omega arith;
  }

  pub hex_none : (48 ≤ b → b ≤ 57 → ⊥) → (97 ≤ b → b ≤ 102 → ⊥) → Hex b None
  unfolding hex
  hex_none n m = record { is = low (ltb b 48) refl; small = tt }
    where
      top : 97 ≤ b → 103 ≤ b
      top h = ⊎_elim (λ (l : b < 103). absurd (m h (omega arith))) (λ l. l) (cases_lt b 103)

      high : (t : Bool) → ltb b 97 ≡ t → 16 ≡ if t (λ _. 16) (λ _. if (ltb b 103) (λ _. b - 87) (λ _. 16))
      high true e = refl
      high false e = simp (le-ltb b 103 (top (ltb-false b 97 e)))

      mid : 48 ≤ b → 16 ≡ if (ltb b 58) (λ _. b - 48) (λ _. if (ltb b 97) (λ _. 16) (λ _. if (ltb b 103) (λ _. b - 87) (λ _. 16)))
      mid g = ⊎_elim (λ (l : b < 58). absurd (n g (omega arith))) (λ (l : 58 ≤ b). simp (le-ltb b 58 l) (high (ltb b 97) refl)) (cases_lt b 58)

      low : (t : Bool) → ltb b 48 ≡ t → 16 ≡ if t (λ _. 16) (λ _. if (ltb b 58) (λ _. b - 48) (λ _. if (ltb b 97) (λ _. 16) (λ _. if (ltb b 103) (λ _. b - 87) (λ _. 16))))
      low true e = refl
      low false e = mid (ltb-false b 48 e)

  pub escaped_no : 32 ≤ b → (b ≡ 92 → ⊥) → (b ≡ 127 → ⊥) → Escaped b false
  unfolding escaped
  escaped_no g h k = record { is = simp (le-ltb b 32 g, ne_eqb b 92 h, ne_eqb b 127 k) }

  pub escaped_yes : (32 ≤ b → (b ≡ 92 → ⊥) → (b ≡ 127 → ⊥) → ⊥) → Escaped b true
  unfolding escaped
  escaped_yes f = record { is = low (ltb b 32) refl }
    where
      high : 32 ≤ b → (b ≡ 92 → ⊥) → true ≡ eqb b 127
      high g n = by (eqb b 127) refl
        where
          by : (t : Bool) → eqb b 127 ≡ t → true ≡ t
          by true e = refl
          by false e = absurd (f g n (eqb-false b 127 e))

      mid : 32 ≤ b → (t : Bool) → eqb b 92 ≡ t → true ≡ if t (λ _. true) (λ _. eqb b 127)
      mid g true e = refl
      mid g false e = high g (eqb-false b 92 e)

      low : (t : Bool) → ltb b 32 ≡ t → true ≡ if t (λ _. true) (λ _. if (eqb b 92) (λ _. true) (λ _. eqb b 127))
      low true e = refl
      low false e = mid (ltb-false b 32 e) (eqb b 92) refl

-- a step in a state that is this one
next_at : {st st' : State} {b : ℕ} {r : std.Option Step} → st ≡ st' → Next st' b r → Next st b r
next_at {b = b} {r} e h = subst (λ (q : State). Next q b r) (sym e) h

module _ {st : State} {b : ℕ} where
  pub next_slash : st ≡ Plain → b ≡ 92 → Next st b (Some (Move Slash))
  unfolding next
  next_slash z h = next_at z (record { is = simp (eq-eqb b 92 h); small = record { low = omega arith } })

  module _ {x : ℕ} {p : Bool} (z : st ≡ Plain) (w : x ≡ b) (n : b ≡ 92 → ⊥) (q : Escaped x p) where
    told : p ≡ escaped b
    told = q.is ∙ ap escaped w

    pub next_raw : p ≡ true → Next st b None
    unfolding next
    next_raw h = next_at z (record { is = simp (ne_eqb b 92 n, sym told ∙ h); small = tt })

    pub next_plain : p ≡ false → Next st b (Some (Put x))
    unfolding next
    next_plain h = next_at z (record { is = simp (ne_eqb b 92 n, sym told ∙ h) (ap put w); small = tt })

  pub next_no_first : st ≡ Slash → Hex b None → Next st b None
  unfolding next
  next_no_first z k = next_at z (record { is = simp (sym k.is); small = tt })

  pub next_first : {h : ℕ} → st ≡ Slash → Hex b (Some h) → Next st b (Some (Move (DigitOf h)))
  unfolding next
  next_first {h} z k =
      let l : h ≤ 15 = k.small in
      next_at z (record { is = simp (sym k.is, le-ltb 15 h l); small = record { low = omega arith } })

  module _ {d : ℕ} (z : st ≡ DigitOf d) where
    pub next_no_second : Hex b None → Next st b None
    unfolding next
    next_no_second k = next_at z (record { is = simp (ne_eqb (2 + d) 0 (λ (y : 2 + d ≡ 0). omega arith), sym k.is); small = tt })

    module _ {h : ℕ} {p : Bool} (k : Hex b (Some h)) (q : Escaped (d * 16 + h) p) where
      second : next (2 + d) b ≡ if p (λ _. put (d * 16 + h)) (λ _. bad)
      unfolding next
      second =
          let m : (2 + d) - 2 ≡ d = omega arith in
          simp (ne_eqb (2 + d) 0 (λ (y : 2 + d ≡ 0). omega arith), ne_eqb (2 + d) 1 (λ (y : 2 + d ≡ 1). omega arith), m, sym k.is, le-ltb 15 h k.small, q.is)

      pub next_escaped : p ≡ true → Next st b (Some (Put (d * 16 + h)))
      next_escaped t = next_at z (record { is = simp t at (sym second); small = tt })

      pub next_needless : p ≡ false → Next st b None
      next_needless t = next_at z (record { is = simp t at (sym second); small = tt })

digit_open : (d : ℕ) → chars (2 + d) [] ≡ none
digit_open d = ap (λ (k : ℕ). chars k []) (let e : 2 + d ≡ suc (suc d) = omega arith in e)

chars_open : (st : State) → (st ≡ Plain → ⊥) → chars (state_of st) [] ≡ none
chars_open Plain h = absurd (h refl)
chars_open Slash h = refl
chars_open (DigitOf d) h = digit_open d

-- what the automaton does with a byte, state by state
module _ (k : ℕ → Option (List ℕ)) where
  raw_turn : (p : Bool) (b : ℕ) → after (if p (λ _. bad) (λ _. put b)) k ≡ put_byte (given (not p) b) (k 0)
  raw_turn true b = refl
  raw_turn false b = refl

  raw_step : (b : ℕ) → eqb b 92 ≡ false → after (next 0 b) k ≡ put_byte (plain b) (k 0)
  unfolding next
  raw_step b e = ap (λ (p : Bool). after (if p (λ _. move 1) (λ _. if (escaped b) (λ _. bad) (λ _. put b))) k) e ∙ raw_turn (escaped b) b

  slash_step : (b : ℕ) → eqb b 92 ≡ true → after (next 0 b) k ≡ k 1
  unfolding next
  slash_step b e = ap (λ (p : Bool). after (if p (λ _. move 1) (λ _. if (escaped b) (λ _. bad) (λ _. put b))) k) e

  digit_turn : (p : Bool) (h : ℕ) → after (if p (λ _. bad) (λ _. move (2 + h))) k ≡ if p (λ _. none) (λ _. k (2 + h))
  digit_turn true h = refl
  digit_turn false h = refl

  digit_step : (b : ℕ) → after (next 1 b) k ≡ if (ltb 15 (hex b)) (λ _. none) (λ _. k (2 + hex b))
  unfolding next
  digit_step b = digit_turn (ltb 15 (hex b)) (hex b)

  byte_turn : (p q : Bool) (x : ℕ) → after (if p (λ _. bad) (λ _. if q (λ _. put x) (λ _. bad))) k ≡ if p (λ _. none) (λ _. put_byte (given q x) (k 0))
  byte_turn true q x = refl
  byte_turn false true x = refl
  byte_turn false false x = refl

  byte_step : (h b : ℕ) → after (next (2 + h) b) k ≡ if (ltb 15 (hex b)) (λ _. none) (λ _. put_byte (given (escaped (h * 16 + hex b)) (h * 16 + hex b)) (k 0))
  unfolding next
  byte_step h b =
      let m : (2 + h) - 2 ≡ h = omega arith in
      simp (ne_eqb (2 + h) 0 (λ (z : 2 + h ≡ 0). omega arith), ne_eqb (2 + h) 1 (λ (z : 2 + h ≡ 1). omega arith), m)
      (byte_turn (ltb 15 (hex b)) (escaped (h * 16 + hex b)) (h * 16 + hex b))

slash_escaped : (b : ℕ) → eqb b 92 ≡ true → plain b ≡ none
unfolding escaped
slash_escaped b e = ap plain (eqb-true b 92 e)

both_put : (p q : Bool) (m : Option ℕ) (rest : Option (List ℕ)) → if p (λ _. none) (λ _. if q (λ _. none) (λ _. put_byte m rest)) ≡ put_byte (if p (λ _. none) (λ _. if q (λ _. none) (λ _. m))) rest
both_put true q m rest = refl
both_put false true m rest = refl
both_put false false m rest = refl

-- after a backslash two digits are read, and then the rest
slash_two : (c d : ℕ) (bs : List ℕ) → chars 1 (c ∷ d ∷ bs) ≡ put_byte (escape c d) (chars 0 bs)
slash_two c d bs =
    digit_step (λ (q : ℕ). chars q (d ∷ bs)) c
    ∙ ap (λ (m : Option (List ℕ)). if (ltb 15 (hex c)) (λ _. none) (λ _. m)) (byte_step (λ (q : ℕ). chars q bs) (hex c) d)
    ∙ both_put (ltb 15 (hex c)) (ltb 15 (hex d)) (given (escaped (hex c * 16 + hex d)) (hex c * 16 + hex d)) (chars 0 bs)

slash_one : (p : Bool) (h : ℕ) → if p (λ _. none) (λ _. chars (2 + h) []) ≡ none
slash_one true h = refl
slash_one false h = digit_open h

one_by : (p : Bool) (b : ℕ) → eqb b 92 ≡ p → chars 0 (b ∷ []) ≡ put_byte (plain b) (some [])
one_by true b e = slash_step (λ (q : ℕ). chars q []) b e ∙ ap (λ (m : Option ℕ). put_byte m (some [])) (sym (slash_escaped b e))
one_by false b e = raw_step (λ (q : ℕ). chars q []) b e

two_by_lem : (p : Bool) (b c : ℕ) → eqb b 92 ≡ p → chars 0 (b ∷ c ∷ []) ≡ put_byte (plain b) (chars 0 (c ∷ []))
two_by_lem true b c e =
    slash_step (λ (q : ℕ). chars q (c ∷ [])) b e ∙ digit_step (λ (q : ℕ). chars q []) c ∙ slash_one (ltb 15 (hex c)) (hex c)
    ∙ ap (λ (m : Option ℕ). put_byte m (chars 0 (c ∷ []))) (sym (slash_escaped b e))
two_by_lem false b c e = raw_step (λ (q : ℕ). chars q (c ∷ [])) b e

more_by : (p : Bool) (b c d : ℕ) (bs : List ℕ) → eqb b 92 ≡ p
    → chars 0 (b ∷ c ∷ d ∷ bs) ≡ if p (λ _. put_byte (escape c d) (chars 0 bs)) (λ _. put_byte (plain b) (chars 0 (c ∷ d ∷ bs)))
more_by true b c d bs e = slash_step (λ (q : ℕ). chars q (c ∷ d ∷ bs)) b e ∙ slash_two c d bs
more_by false b c d bs e = raw_step (λ (q : ℕ). chars q (c ∷ d ∷ bs)) b e

-- what the automaton reads is what the rules say
chars_name : (l : List ℕ) → chars 0 l ≡ name l
unfolding name
chars_name [] = refl
chars_name (b ∷ []) = one_by (eqb b 92) b refl
chars_name (b ∷ c ∷ []) = two_by_lem (eqb b 92) b c refl ∙ ap (put_byte (plain b)) (chars_name (c ∷ []))
chars_name (b ∷ c ∷ d ∷ bs) =
    more_by (eqb b 92) b c d bs refl
    ∙ ap₂ {C = Option (List ℕ)} (λ (x y : Option (List ℕ)). if (eqb b 92) (λ _. put_byte (escape c d) x) (λ _. put_byte (plain b) y))
    (chars_name bs) (chars_name (c ∷ d ∷ bs))

pub record Naming (s : List ℕ) (from to top : ℕ) (w₀ w : List ℕ) (st : State) (i t : ℕ) : Type 0 where
  pub fits : Fits st
  pub low : from ≤ i
  pub high : i ≤ to
  pub begun : top ≤ t
  pub short : t ≤ top + (i - from)
  pub above : Above top w₀ w
  pub is : follow (span w top t) (chars (state_of st) (span s i to)) ≡ name (span s from to)

pub name_start : {s : List ℕ} {from to top : ℕ} {w : List ℕ} → Room s from to w top → Naming s from to top w w Plain from top
name_start {s} {from} {to} {top} {w} h = record {
  fits = record { low = omega arith };
  low = omega arith;
  high = h.order;
  begun = omega arith;
  short = omega arith;
  above = above_none;
  is = ap (λ (l : List ℕ). follow l (chars 0 (span s from to))) (span_none w top top (omega arith)) ∙ follow_nil (chars 0 (span s from to)) ∙ chars_name (span s from to);
}

module _ {s : List ℕ} {from to top : ℕ} {w₀ w : List ℕ} {state : State} {i t : ℕ} (inv : Naming s from to top w₀ w state i t) where
  pub name_done : to ≤ i → state ≡ Plain → Named s from to top w₀ w (Some t)
  name_done h z = record {
    wrote = record {
      above = inv.above;
      is = sym (ap (λ (l : List ℕ). some l) (append-nil (span w top t)))
          ∙ ap₂ {C = Option (List ℕ)} (λ (q : State) (l : List ℕ). follow (span w top t) (chars (state_of q) l)) (sym z) (sym (span_none s i to h)) ∙ inv.is;
      ends = (inv.begun, omega (arith, inv.short, inv.high, inv.low));
    };
  }

  pub name_open : to ≤ i → (state ≡ Plain → ⊥) → Named s from to top w₀ w None
  name_open h z = record {
    wrote = record {
      above = inv.above;
      is = sym (ap (follow (span w top t)) (chars_open state z)) ∙ ap (λ (l : List ℕ). follow (span w top t) (chars (state_of state) l)) (sym (span_none s i to h)) ∙ inv.is;
      ends = tt;
    };
  }

  pub name_fits : Fits state
  name_fits = inv.fits

  pub name_place : Room s from to w₀ top → i < to → t < length w
  name_place h lt = let l = inv.above.same_length in omega (arith, h.room, inv.short, inv.low)

  module _ {r : std.Option Step} (lt : i < to) (p : Next state (cell s i) r) where
    turn : (o : std.Option Step) → r ≡ o → follow (span w top t) (after (step_of o) (λ (q : ℕ). chars q (span s (i + 1) to))) ≡ name (span s from to)
    turn o e =
        ap (λ (o : Read). follow (span w top t) (after o (λ (q : ℕ). chars q (span s (i + 1) to)))) (ap step_of (sym e) ∙ p.is)
        ∙ ap (λ (l : List ℕ). follow (span w top t) (chars (state_of state) l)) (sym (span_next s i to lt))
        ∙ inv.is

    pub name_bad : r ≡ None → Named s from to top w₀ w None
    name_bad e = record { wrote = record { above = inv.above; is = turn None e; ends = tt } }

    pub name_move : {q : State} → r ≡ Some (Move q) → Naming s from to top w₀ w q (i + 1) t
    name_move {q} e = record {
      fits = subst Small e p.small;
      low = omega (arith, inv.low);
      high = omega arith;
      begun = inv.begun;
      short = omega (arith, inv.short, inv.low);
      above = inv.above;
      is = turn (Some (Move q)) e;
    }

    pub name_put : {x : ℕ} → Room s from to w₀ top → r ≡ Some (Put x) → Naming s from to top w₀ (set w t x) Plain (i + 1) (t + 1)
    name_put {x} h e = record {
      fits = record { low = omega arith };
      low = omega (arith, inv.low);
      high = omega arith;
      begun = omega (arith, inv.begun);
      short = omega (arith, inv.short, inv.low);
      above = above_set t x inv.above inv.begun;
      is =
          ap (λ (l : List ℕ). follow l (chars 0 (span s (i + 1) to))) (span_set w top t x inv.begun (name_place h lt))
          ∙ sym (follow_more (span w top t) (x ∷ []) (chars 0 (span s (i + 1) to)))
          ∙ turn (Some (Put x)) e;
    }
