-- Reading a set in a row. Assumes nothing.
use mathlib.Core.Path.{◌≡◌, refl, sym, ap, ap₂, ◌∙◌, subst}
use mathlib.Core.Bool.{Bool, true, false, not, ◌||◌}
use Prim.Native.Nat.{ℕ, zero, suc, ◌+◌, ◌-◌, ◌*◌, ◌≤◌, ◌<◌}
use mathlib.Core.Logic.{⊎_elim}
use native.Mathlib.Omega.{arith}
use native.Mathlib.Nat.{eq-or-lt_of_le, not-suc-le-zero}
use native.Mathlib.Numerals.{add-one}
use mathlib.Core.List.{List, [], ◌∷◌}
use lib.ListN.{length, get_or, drop, length-map}
use lib.Seq.{drop-cons}
use lib.Dec.{eqb}
use borrow.Author.Tests.{eq-eqb, eqb-true, eqb-false, not-true, not-false}
use Rattle.cells.specs.Part.{cell, part}
use Rattle.cells.specs.Sum.{Sum}
use Rattle.cells.proofs.Holding.{holds_head, holds_tail, holds_place}
use Rattle.rules.specs.Plain.{all, contains, ascending}
use Rattle.rules.specs.Table.{Field, Attr, field_keys}
use Rattle.rules.specs.Types.{field_words}
use Rattle.laws.specs.Sound.{Orderly}
use Rattle.laws.proofs.Ascending.{From, Rising, rising_of, ascending_of, from_zero, rising_drop, contains_above, contains_first, contains_below}
use Rattle.laws.proofs.Filtering.{all_here, all_more, all_done}
use Rattle.cells.proofs.Choices.{true_false}
use Rattle.laws.proofs.Rows.{attr_words_length, set_fields, set_dyn, set_open, set_optionals, set_optional, dyns_read, dyn_type_read, key_read, type_read}
use Rattle.lang_ty.specs.Sets.{SetAt, open_from, Fields, Key, FieldType, DynPlace, Dyns, DynType, OpenPlace, Open, Optionals, apart, reach}
use Rattle.lang_ty.specs.Sets.{keys_at, Ahead, FieldKeys, OptionalKeys, KeysFrom, Starts, BehindFirst, HasField, Walked, Least, AlikeFields, WalkBehind, covers, FieldsCover}
use Rattle.lang_ty.specs.declared.attrset.Keys.{Keys}
use Rattle.lang_ty.specs.declared.attrset.Walk.{Walk}
use Rattle.cells.specs.Placed.{Holds}

module _ {w : List ℕ} {a : ℕ} where
  -- place i + i + 1 or i + i + 2 after a
  twice : {t : Attr} {i j m p : ℕ} (d : ℕ) → SetAt w a t → d ≤ 2 → i < length t.fields → Sum i i j → Sum j d m → p ≡ a + m → p ≡ a + (i + i) + d
  twice {t} d s le lt two one e =
      let l = attr_words_length t in
      let f = s.fits in
      let x = two.is (omega arith) in
      let y = one.is (omega arith) in
      omega arith

  pub key_is : {i j m p r : ℕ} → Sum i i j → Sum j 1 m → p ≡ a + m → r ≡ cell w p → Key w a i r
  key_is {i} two one e g =
      record {
        is = λ {t} s lt.
            let z = twice 1 s (omega arith) lt two one e in
            g ∙ ap (cell w) (omega arith) ∙ key_read t.fields i (set_fields t s.words) lt;
      }

  pub field_type_is : {i j m p r : ℕ} → Sum i i j → Sum j 2 m → p ≡ a + m → r ≡ cell w p → FieldType w a i r
  field_type_is {i} two one e g =
      record {
        is = λ {t} s lt.
            let z = twice 2 s (omega arith) lt two one e in
            g ∙ ap (cell w) (omega arith) ∙ type_read t.fields i (set_fields t s.words) lt;
      }

  pub dyn_place_is : {n b m r : ℕ} → Fields w a n → Sum a 1 b → Sum n n m → Sum b m r → DynPlace w a r
  dyn_place_is f one two both =
      record {
        is = λ {t} s.
            let l = attr_words_length t in
            let z = s.fits in
            let n = f.is s in
            let x = one.is (omega arith) in
            let y = two.is (omega arith) in
            both.is (omega arith) ∙ omega arith;
      }

  pub dyns_is : {d r : ℕ} → DynPlace w a d → r ≡ cell w d → Dyns w a r
  dyns_is d e = record { is = λ {t} s. e ∙ ap (cell w) (d.is s) ∙ dyns_read t.dyn (set_dyn t s.words) }

  pub dyn_type_is : {d p r : ℕ} → DynPlace w a d → p ≡ d + 1 → r ≡ cell w p → DynType w a r
  dyn_type_is d e g =
      record { is = λ {t} s some. g ∙ ap (cell w) (e ∙ ap (λ (k : ℕ). k + 1) (d.is s)) ∙ dyn_type_read t.dyn (set_dyn t s.words) some }

  pub open_place_is : {d b x r : ℕ} → DynPlace w a d → Sum d 1 b → x ≡ cell w d → Sum b x r → OpenPlace w a r
  open_place_is d one e both =
      record {
        is = λ {t} s.
            let l = attr_words_length t in
            let z = s.fits in
            let m = d.is s in
            let n = e ∙ ap (cell w) m ∙ dyns_read t.dyn (set_dyn t s.words) in
            let x = one.is (omega arith) in
            both.is (omega arith) ∙ omega arith;
      }

  pub open_is : {o r : ℕ} → OpenPlace w a o → r ≡ cell w o → Open w a r
  open_is o e = record { is = λ {t} s. e ∙ ap (cell w) (o.is s) ∙ set_open t s.words }

  pub optionals_is : {o p r : ℕ} → OpenPlace w a o → p ≡ o + 1 → r ≡ cell w p → Optionals w a r
  optionals_is o e g = record { is = λ {t} s. g ∙ ap (cell w) (e ∙ ap (λ (k : ℕ). k + 1) (o.is s)) ∙ set_optionals t s.words }

-- keys stand two apart, optional keys one
pub reach_two : (a n : ℕ) → reach 2 a n ≡ a + 2 * n
reach_two a zero = omega arith
reach_two a (suc n) = omega (arith, reach_two (a + 2) n)

pub reach_one : (a n : ℕ) → reach 1 a n ≡ a + n
reach_one a zero = omega arith
reach_one a (suc n) = omega (arith, reach_one (a + 1) n)

pub reach_most : (step a n : ℕ) → a ≤ reach step a n
reach_most step a zero = omega arith
reach_most step a (suc n) = omega (arith, reach_most step (a + step) n)

apart_keys : {w : List ℕ} {a : ℕ} (fs : List Field) → Holds w a (field_words fs) → apart w 2 a (length fs) ≡ field_keys fs
apart_keys {w = w} {a = a} [] h = refl
apart_keys {w = w} {a = a} (f ∷ fs) h = ap₂ {C = List ℕ} ◌∷◌ (holds_head h) (apart_keys {a = a + 2} fs (holds_place (omega arith) (holds_tail (holds_tail h))))

pub apart_part : (w : List ℕ) (a n : ℕ) → apart w 1 a n ≡ part w a n
apart_part w a zero = refl
apart_part w a (suc n) = ap (λ (l : List ℕ). cell w a ∷ l) (ap (λ (b : ℕ). apart w 1 b n) (add-one a) ∙ apart_part w (suc a) n)

-- all keys of a list are left
ahead_whole : {w whole : List ℕ} {step : ℕ} (ks : Keys) → reach step ks.at ks.left ≤ 4294967295 → keys_at w step ks ≡ whole → ascending whole ≡ true → Ahead w step ks whole 0
ahead_whole ks h e a = record { fits = h; ascend = ap ascending e ∙ a; same = λ k le. ap (λ (xs : List ℕ). contains xs k) e }

module _ {w : List ℕ} {a : ℕ} where
  pub field_keys_is : {b n : ℕ} → Sum a 1 b → Fields w a n → FieldKeys w a (record { at = b; left = n })
  field_keys_is {b} {n} one f =
      record {
        is = λ {t} s o.
            let l = attr_words_length t in
            let z = s.fits in
            let m = f.is s in
            let x : b ≡ a + 1 = one.is (omega arith) in
            ahead_whole _ (omega (arith, reach_two b n)) (ap₂ (apart w 2) x m ∙ apart_keys t.fields (set_fields t s.words)) o.ascend;
      }

  pub optional_keys_is : {o b p n : ℕ} → OpenPlace w a o → Sum o 2 b → p ≡ o + 1 → n ≡ cell w p → OptionalKeys w a (record { at = b; left = n })
  optional_keys_is {o} {b} {p} {n} place two e f =
      record {
        is = λ {t} s g.
            let l = attr_words_length t in
            let z = s.fits in
            let q = place.is s in
            let m : n ≡ length t.optional = f ∙ ap (cell w) (e ∙ ap (λ (j : ℕ). j + 1) q) ∙ set_optionals t s.words in
            let x : b ≡ open_from a t + 2 = two.is (omega arith) ∙ omega arith in
            ahead_whole _ (omega (arith, reach_one b n)) (apart_part w b n ∙ ap₂ (part w) x m ∙ (set_optional t s.words).is) g.optional;
      }

-- the first key and the others
abbrev others : List ℕ → ℕ → ℕ → ℕ → List ℕ
others w step p n = apart w step (p + step) (n - 1)

parts : (w : List ℕ) (step p n : ℕ) → 0 < n → apart w step p n ≡ cell w p ∷ others w step p n
parts w step p n some = let z : n ≡ suc (n - 1) = omega arith in ap (apart w step p) z

reached : (step p n : ℕ) → 0 < n → reach step p n ≡ reach step (p + step) (n - 1)
reached step p n some = let z : n ≡ suc (n - 1) = omega arith in ap (reach step p) z

-- without a first key that is below k
ahead_next : {w whole : List ℕ} {step p n s b : ℕ} (k : ℕ) → Ahead w step (record { at = p; left = n }) whole b → 0 < n → b ≤ k → cell w p < k → Sum p step s
    → Ahead w step (record { at = s; left = n - 1 }) whole k
ahead_next {w} {whole} {step} {p} {n} {s} {b} k h some le lt sum =
    let r = reached step p n some in
    let z : s ≡ p + step = sum.is (omega (arith, h.fits, r, reach_most step (p + step) (n - 1))) in
    let e = parts w step p n some in
    let there : apart w step s (n - 1) ≡ others w step p n = ap (λ (m : ℕ). apart w step m (n - 1)) z in
    let up = rising_of (cell w p ∷ others w step p n) (sym (ap ascending e) ∙ h.ascend) in
    record {
      fits = omega (arith, ap (λ (m : ℕ). reach step m (n - 1)) z, h.fits, r);
      ascend = ap ascending there ∙ ascending_of (others w step p n) up.1;
      same = λ m g.
          ap (λ (xs : List ℕ). contains xs m) there
          ∙ sym (ap (λ (xs : List ℕ). contains xs m) e ∙ contains_above (cell w p) m (others w step p n) (omega arith))
          ∙ h.same m (omega arith);
    }

-- `keys_from` with n keys left from p on
pub record Passing (w : List ℕ) (ks : Keys) (step k p n : ℕ) : Type 0 where
  pub is : {whole : List ℕ} {b : ℕ} → Ahead w step ks whole b → b ≤ k → Ahead w step (record { at = p; left = n }) whole k

module _ {w : List ℕ} {ks : Keys} {step k : ℕ} where
  pub passing_start : Passing w ks step k ks.at ks.left
  passing_start = record { is = λ h le. record { fits = h.fits; ascend = h.ascend; same = λ m g. h.same m (omega arith) } }

  module _ {p n x : ℕ} (c : Passing w ks step k p n) (e : x ≡ cell w p) where
    pub passing_here : k ≤ x → KeysFrom w ks step k (record { at = p; left = n })
    passing_here g = record { is = c.is; first = λ h le some. omega arith }

    pub passing_more : {s : ℕ} → 0 < n → x < k → Sum p step s → Passing w ks step k s (n - 1)
    passing_more some g sum = record { is = λ h le. ahead_next k (c.is h le) some (omega arith) (omega arith) sum }

  pub passing_done : {p n : ℕ} → Passing w ks step k p n → n ≤ 0 → KeysFrom w ks step k (record { at = p; left = n })
  passing_done c g = record { is = c.is; first = λ h le some. absurd (omega arith) }

module _ {w : List ℕ} {ks : Keys} {k : ℕ} where
  pub starts_none : ks.left ≡ 0 → Starts w ks k (not (eqb ks.left 0))
  starts_none e =
      subst (λ (b : Bool). Starts w ks k (not b)) (sym (eq-eqb ks.left 0 e))
      record {
        is = λ step h first. sym (ap (λ (n : ℕ). contains (apart w step ks.at n) k) e) ∙ h.same k (omega arith);
        here = λ g. true_false (sym g);
      }

  pub starts_some : {x : ℕ} {r : Bool} → (ks.left ≡ 0 → ⊥) → x ≡ cell w ks.at → r ≡ eqb x k → Starts w ks k r
  starts_some {x} {r} some e g =
      let z : 0 < ks.left = omega (arith, some) in
      record {
        is = λ step {whole} h first.
            let l = others w step ks.at ks.left in
            let up = rising_of (cell w ks.at ∷ l) (sym (ap ascending (parts w step ks.at ks.left z)) ∙ h.ascend) in
            decided (cell w ks.at) l (first z) up (g ∙ ap (λ (y : ℕ). eqb y k) e)
            ∙ sym (ap (λ (xs : List ℕ). contains xs k) (parts w step ks.at ks.left z)) ∙ h.same k (omega arith);
        here = λ h. (z, sym e ∙ eqb-true x k (sym g ∙ h));
      }
    where
      turn : (y : ℕ) (l : List ℕ) (b : Bool) → eqb y k ≡ b → k ≤ y → Rising (y ∷ l) → b ≡ contains (y ∷ l) k
      turn y l true f le up = sym (contains_first y k l (eqb-true y k f))
      turn y l false f le up = let d = eqb-false y k f in sym (contains_below k (y ∷ l) (omega (arith, d)) up)

      decided : (y : ℕ) (l : List ℕ) {b : Bool} → k ≤ y → Rising (y ∷ l) → b ≡ eqb y k → b ≡ contains (y ∷ l) k
      decided y l {b} le up f = turn y l b (sym f) le up

module _ {ks : Keys} {step : ℕ} where
  pub behind_none : ks.left ≡ 0 → BehindFirst ks step ks
  behind_none e = record { is = λ h some g. absurd (omega arith) }

  pub behind_some : {s : ℕ} → (ks.left ≡ 0 → ⊥) → Sum ks.at step s → BehindFirst ks step (record { at = s; left = ks.left - 1 })
  behind_some none sum = record { is = λ {w} {whole} {k} h some g. ahead_next (suc k) h some (omega arith) (omega arith) sum }

pub has_field_is : {w : List ℕ} {a k : ℕ} {ks ls : Keys} {r : Bool} → FieldKeys w a ks → KeysFrom w ks 2 k ls → Starts w ls k r → HasField w a k r
has_field_is f g h =
    record { is = λ s o. let x = f.is s o in h.is 2 (g.is x (omega arith)) (g.first x (omega arith)) }

or_true : (b : Bool) → (b || true) ≡ true
or_true true = refl
or_true false = refl

or_false : (b : Bool) → (b || false) ≡ b
or_false true = refl
or_false false = refl

pub ahead_later : {w whole : List ℕ} {step b : ℕ} {ks : Keys} (c : ℕ) → b ≤ c → Ahead w step ks whole b → Ahead w step ks whole c
ahead_later c le h = record { fits = h.fits; ascend = h.ascend; same = λ k g. h.same k (omega arith) }

-- the other set's key, looked for
hit : {w ks : List ℕ} {b k : ℕ} {old next : Keys} {r : Bool} → KeysFrom w old 2 k next → Starts w next k r → Ahead w 2 old ks b → b ≤ k → r ≡ contains ks k
hit along found h le = found.is 2 (along.is h le) (along.first h le)

-- the ways of `walked`: the key is one of the other set's, or the optional keys tell
module _ {w : List ℕ} {walk : Walk} {k : ℕ} {next : Keys} {r : Bool} (along : KeysFrom w walk.other 2 k next) (found : Starts w next k r) where
  pub walked_other : {behind : Keys} → r ≡ true → BehindFirst next 2 behind → Walked w walk k (record { optional = walk.optional; other = behind; covered = true })
  walked_other e f =
      record {
        optional = λ g h le. ahead_later (suc k) (omega arith) g;
        other = λ g h le. f.is (along.is h le) (found.here e).0 (found.here e).1;
        is = λ {os} {ks} g h le. sym (or_true (contains os k)) ∙ ap (λ (z : Bool). contains os k || z) (sym e ∙ hit along found h le);
      }

  pub walked_optional : {rest : Keys} {d : Bool} → r ≡ false → KeysFrom w walk.optional 1 k rest → Starts w rest k d
      → Walked w walk k (record { optional = rest; other = next; covered = d })
  walked_optional e walked starts =
      record {
        optional = λ g h le. ahead_later (suc k) (omega arith) (walked.is g le);
        other = λ g h le. ahead_later (suc k) (omega arith) (along.is h le);
        is = λ {os} {ks} g h le.
            starts.is 1 (walked.is g le) (walked.first g le) ∙ sym (or_false (contains os k)) ∙ ap (λ (z : Bool). contains os k || z) (sym e ∙ hit along found h le);
      }

-- `fields_cover` at field i of the set t: the keys before it are below a bound, and what is left of the lists says the rest
pub record Along (w : List ℕ) (t u : Attr) (i : ℕ) (walk : Walk) : Type 0 where
  pub bound : ℕ
  pub from : From bound (drop i (field_keys t.fields))
  pub optional : Ahead w 1 walk.optional t.optional bound
  pub other : Ahead w 2 walk.other (field_keys u.fields) bound
  pub is : all (covers t u) (drop i (field_keys t.fields)) ≡ all (covers t u) (field_keys t.fields)

pub record Covering (w : List ℕ) (a b n i : ℕ) (walk : Walk) : Type 0 where
  pub few : i ≤ n
  pub is : {t u : Attr} → SetAt w a t → SetAt w b u → Orderly t → Orderly u → Along w t u i walk

-- `alike_fields` at field r
pub record Comparing (w : List ℕ) (a b n i r : ℕ) : Type 0 where
  pub few : r ≤ n
  pub twice : i ≡ 2 * r
  pub is : (j : ℕ) → j < r → cell w (a + 1 + 2 * j) ≡ cell w (b + 1 + 2 * j)

module _ {w : List ℕ} {a b n : ℕ} where
  pub alike_none : AlikeFields w a b n 0
  alike_none = record { few = omega arith; is = λ j lt. absurd (not-suc-le-zero lt) }

  pub comparing_start : Comparing w a b n 0 0
  comparing_start = record { few = omega arith; twice = refl; is = λ j lt. absurd (not-suc-le-zero lt) }

  pub comparing_ends : {i r : ℕ} → Comparing w a b n i r → AlikeFields w a b n r
  comparing_ends c = record { few = c.few; is = c.is }

  pub comparing_more : {p q i r : ℕ} → p ≡ a + 1 → q ≡ b + 1 → Comparing w a b n i r → r < n → cell w (p + i) ≡ cell w (q + i) → Comparing w a b n (i + 2) (r + 1)
  comparing_more {p} {q} {i} {r} ep eq c lt e =
      let z = c.twice in
      record {
        few = omega arith;
        twice = omega arith;
        is = λ j lj.
            ⊎_elim
            (λ (f : j ≡ r).
            let x : a + 1 + 2 * j ≡ p + i = omega arith in
            let y : q + i ≡ b + 1 + 2 * j = omega arith in
            ap (cell w) x ∙ e ∙ ap (cell w) y)
            (λ (f : j < r). c.is j f)
            (eq-or-lt_of_le (omega arith));
      }

pub behind_allowed : {w : List ℕ} {a b n m o r : ℕ} → Least n m o → AlikeFields w a b o r → r ≤ m
behind_allowed least alike = omega (arith, least.second, alike.few)

pub walk_behind_is : {w : List ℕ} {a b m r c d e : ℕ} {os : Keys} → r ≤ m → Sum b 1 c → Sum r r d → Sum c d e → OptionalKeys w a os
    → WalkBehind w a b m r (record { optional = os; other = record { at = e; left = m - r }; covered = true })
walk_behind_is le one two both o =
    record {
      optional = λ s g. o.is s g;
      at = λ h. let x = one.is (omega arith) in let y = two.is (omega arith) in both.is (omega arith) ∙ omega arith;
      left = omega arith;
    }

-- two lists that ascend and share their first r numbers: behind those a number that is not below what is left of the one is in what is left of the
-- other if it is in the whole; p is so of each number of the other
record Led (p : ℕ → Bool) (xs ys : List ℕ) (r : ℕ) : Type 0 where
  bound : ℕ
  from : From bound (drop r xs)
  same : (k : ℕ) → bound ≤ k → contains (drop r ys) k ≡ contains ys k
  is : all p (drop r xs) ≡ all p xs

module _ (p : ℕ → Bool) (xs ys : List ℕ) (up : Rising xs) (so : (k : ℕ) → contains ys k ≡ true → p k ≡ true) where
  led : (r : ℕ) → r ≤ length xs → r ≤ length ys → ((j : ℕ) → j < r → get_or xs j 0 ≡ get_or ys j 0) → Led p xs ys r
  led zero lx ly e = record { bound = 0; from = from_zero xs; same = λ k le. refl; is = refl }
  led (suc r) lx ly e =
      let l = led r (omega arith) (omega arith) (λ j lt. e j (omega arith)) in
      let x = get_or xs r 0 in
      let fx : drop r xs ≡ x ∷ drop (suc r) xs = drop-cons xs r 0 lx in
      let fy : drop r ys ≡ x ∷ drop (suc r) ys = drop-cons ys r 0 ly ∙ ap (λ (y : ℕ). y ∷ drop (suc r) ys) (sym (e r (omega arith))) in
      let low : l.bound ≤ x = subst (From l.bound) fx l.from in
      let there : contains ys x ≡ true = sym (l.same x low) ∙ ap (λ (zs : List ℕ). contains zs x) fy ∙ contains_first x x (drop (suc r) ys) refl in
      record {
        bound = suc x;
        from = (subst Rising fx (rising_drop r xs up)).0;
        same = λ k le. sym (contains_above x k (drop (suc r) ys) le) ∙ sym (ap (λ (zs : List ℕ). contains zs k) fy) ∙ l.same k (omega arith);
        is = ap (λ (j : ℕ). all p (drop j xs)) (sym (add-one r)) ∙ all_more p xs r l.is lx (sym (so x there));
      }

apart_drop : (w : List ℕ) (a n r c : ℕ) → c ≡ r + n → apart w 2 (a + 2 * r) n ≡ drop r (apart w 2 a c)
apart_drop w a n zero c e =
    let z : a + 2 * 0 ≡ a = omega arith in let y : n ≡ c = omega arith in ap₂ (apart w 2) z y
apart_drop w a n (suc r) zero e = absurd (omega arith)
apart_drop w a n (suc r) (suc c) e =
    let z : a + 2 * suc r ≡ a + 2 + 2 * r = omega arith in ap (λ (b : ℕ). apart w 2 b n) z ∙ apart_drop w (a + 2) n r c (omega arith)

module _ {w : List ℕ} {a b n : ℕ} where
  pub covering_start : {m o r : ℕ} {walk : Walk} → Fields w a n → Fields w b m → Least n m o → AlikeFields w a b o r → WalkBehind w a b m r walk → Covering w a b n r walk
  covering_start {m} {o} {r} {walk} fa fb least alike behind =
      record {
        few = omega (arith, least.first, alike.few);
        is = λ {t} {u} s v p q.
            let xs = field_keys t.fields in
            let ys = field_keys u.fields in
            let lx : n ≡ length xs = fa.is s ∙ sym (length-map t.fields (λ (f : Field). f.key)) in
            let ly : m ≡ length ys = fb.is v ∙ sym (length-map u.fields (λ (f : Field). f.key)) in
            let long = attr_words_length u in
            let high : b + 1 + 2 * m ≤ 4294967295 = omega (arith, v.fits, fb.is v) in
            let at = behind.at high in
            let left = behind.left in
            let kx : (j : ℕ) → j < length t.fields → cell w (a + 1 + 2 * j) ≡ get_or xs j 0 =
            λ j lt. ap (cell w) (omega arith) ∙ key_read t.fields j (set_fields t s.words) lt in
            let ky : (j : ℕ) → j < length u.fields → cell w (b + 1 + 2 * j) ≡ get_or ys j 0 =
            λ j lt. ap (cell w) (omega arith) ∙ key_read u.fields j (set_fields u v.words) lt in
            let l = led (covers t u) xs ys (rising_of xs p.ascend) (λ k e. ap (λ (z : Bool). contains t.optional k || z) e ∙ or_true (contains t.optional k)) r
            (omega (arith, least.first, alike.few)) (omega (arith, least.second, alike.few))
            (λ j lt. sym (kx j (omega (arith, fa.is s, least.first, alike.few))) ∙ alike.is j lt ∙ ky j (omega (arith, fb.is v, least.second, alike.few))) in
            let whole : apart w 2 (b + 1) (length u.fields) ≡ ys = apart_keys u.fields (holds_place (omega arith) (set_fields u v.words)) in
            let rest : keys_at w 2 walk.other ≡ drop r ys =
            ap (λ (c : ℕ). apart w 2 c walk.other.left) at ∙ apart_drop w (b + 1) walk.other.left r (length u.fields) (omega (arith, fb.is v)) ∙ ap (drop r) whole in
            record {
              bound = l.bound;
              from = l.from;
              optional = ahead_later l.bound (omega arith) (behind.optional s p);
              other = record {
                fits = omega (arith, reach_two walk.other.at walk.other.left);
                ascend = ap ascending rest ∙ ascending_of (drop r ys) (rising_drop r ys (rising_of ys q.ascend));
                same = λ k le. ap (λ (zs : List ℕ). contains zs k) rest ∙ l.same k le;
              };
              is = l.is;
            };
      }

  module _ {i k : ℕ} {walk next : Walk} (fields : Fields w a n) (c : Covering w a b n i walk) (lt : i < n) (key : Key w a i k) (step : Walked w walk k next) where
    -- where the walk stands for two sets
    module _ {t u : Attr} (s : SetAt w a t) (v : SetAt w b u) (o : Orderly t) (q : Orderly u) where
      abbrev keys : List ℕ
      keys = field_keys t.fields

      along : Along w t u i walk
      along = c.is s v o q

      size : i < length keys
      size = let m = fields.is s in omega (arith, length-map t.fields (λ (f : Field). f.key))

      here : k ≡ get_or keys i 0
      here = let m = fields.is s in key.is s (omega arith)

      split : drop i keys ≡ k ∷ drop (suc i) keys
      split = drop-cons keys i 0 size ∙ ap (λ (x : ℕ). x ∷ drop (suc i) keys) (sym here)

      low : along.bound ≤ k
      low = subst (From along.bound) split along.from

      high : From (suc k) (drop (i + 1) keys)
      high = subst (λ (j : ℕ). From (suc k) (drop j keys)) (sym (add-one i)) (subst Rising split (rising_drop i keys (rising_of keys o.ascend))).0

      told : next.covered ≡ covers t u (get_or keys i 0)
      told = step.is along.optional along.other low ∙ ap (covers t u) here

    pub covering_lacks : not next.covered ≡ true → FieldsCover w a b false
    covering_lacks g =
        record {
          is = λ {t} {u} s v o q.
              all_here (covers t u) (field_keys t.fields) i (along s v o q).is (size s v o q) (sym (not-true next.covered g) ∙ told s v o q);
        }

    pub covering_more : not next.covered ≡ false → Covering w a b n (i + 1) next
    covering_more g =
        record {
          few = omega arith;
          is = λ {t} {u} s v o q.
              let x = along s v o q in
              let y = low s v o q in
              record {
                bound = suc k;
                from = high s v o q;
                optional = step.optional x.optional x.other y;
                other = step.other x.optional x.other y;
                is = all_more (covers t u) (field_keys t.fields) i x.is (size s v o q) (sym (not-false next.covered g) ∙ told s v o q);
              };
        }

  pub covering_done : {i : ℕ} {walk : Walk} → Covering w a b n i walk → Fields w a n → n ≤ i → FieldsCover w a b true
  covering_done {i} c fields le =
      record {
        is = λ {t} {u} s v o q.
            let m = fields.is s in
            all_done (covers t u) (field_keys t.fields) i (c.is s v o q).is (omega (arith, length-map t.fields (λ (f : Field). f.key)));
      }
