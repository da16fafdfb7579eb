-- What the printer writes of a row's words, the reader takes apart again: numbers, lists, fields, rows and lines. Assumes nothing.
use mathlib.Core.Path.{◌≡◌, refl, sym, ap, ap₂, ◌∙◌, subst}
use mathlib.Core.Bool.{false}
use mathlib.Core.Logic.{⊎_elim}
use Prim.Native.Nat.{ℕ, zero, suc, ◌+◌, ◌-◌, ◌*◌, ◌/◌, ◌%◌, ◌≤◌, ◌<◌}
use native.Mathlib.Omega.{arith}
use native.Mathlib.Nat.{eq-or-lt_of_le, not-suc-le-zero}
use mathlib.Core.List.{List, [], ◌∷◌, ◌++◌, map, append-nil, append_assoc}
use lib.ListN.{length}
use lib.Seq.{take_at, drop_at}
use lib.Dec.{ltb}
use borrow.Author.Tests.{ltb-true, ltb-false, le-ltb, le-leb, eq-eqb, ne_eqb}
use Rattle.cells.specs.Part.{eq_list, cell}
use Rattle.cells.proofs.Choices.{by_test}
use Rattle.rules.specs.Plain.{◌>>=◌}
use Rattle.rules.specs.Text.{comma, colon, dash, cut, pieces, parted, greatest, digit, digits, number, decimal_by, decimal, elements, counted, list_of, single, keyed}
use Rattle.rules.specs.Text.{up_to, dyn_of, a_number, a_code, a_flag, a_list, a_dyn, some_fields, a_sign, field_of, by_shape, words_of, list_text, keyed_text, field_text, shape_texts}
use Rattle.rules.specs.Table.{Field}
use Rattle.rules.specs.Types.{field_words, dyn_words}
use Rattle.laws.proofs.Rooting.{All, all_join}
use Rattle.laws.proofs.Rows.{field_words_length}
use Rattle.laws.proofs.Admitting.{Every}
use mathlib.Core.Option.{Option, none, some}

pub all_more : (P Q : ℕ → Type 0) → ((x : ℕ) → P x → Q x) → (xs : List ℕ) → All P xs → All Q xs
all_more P Q f [] h = tt
all_more P Q f (x ∷ xs) h = (f x h.0, all_more P Q f xs h.1)

pub every_more : (P Q : List ℕ → Type 0) → ((l : List ℕ) → P l → Q l) → (ps : List (List ℕ)) → Every P ps → Every Q ps
every_more P Q f [] h = tt
every_more P Q f (p ∷ ps) h = (f p h.0, every_more P Q f ps h.1)

-- bytes of k or more
abbrev pub Over : ℕ → List ℕ → Type 0
Over k l = All (λ (b : ℕ). k ≤ b) l

-- a text without the separator
abbrev pub Free : ℕ → List ℕ → Type 0
Free sep l = All (λ (b : ℕ). b ≡ sep → ⊥) l

pub over_free : (sep k : ℕ) → sep < k → (l : List ℕ) → Over k l → Free sep l
over_free sep k h l o = all_more (λ (b : ℕ). k ≤ b) (λ (b : ℕ). b ≡ sep → ⊥) (λ b le e. omega arith) l o

-- the pieces of a text that was put together from pieces without the separator are these
module _ (sep : ℕ) where
  cut_free : (got p : List ℕ) → Free sep p → cut sep got p ≡ (got ++ p) ∷ []
  cut_free got [] h = ap (λ (l : List ℕ). l ∷ []) (sym (append-nil got))
  cut_free got (b ∷ p) h =
      rw (ne_eqb b sep h.0) (cut_free (got ++ (b ∷ [])) p h.1 ∙ ap (λ (l : List ℕ). l ∷ []) (append_assoc got (b ∷ []) p))

  cut_at : (got p rest : List ℕ) → Free sep p → cut sep got (p ++ (sep ∷ rest)) ≡ (got ++ p) ∷ cut sep [] rest
  cut_at got [] rest h = rw (eq-eqb sep sep refl) (ap (λ (l : List ℕ). l ∷ cut sep [] rest) (sym (append-nil got)))
  cut_at got (b ∷ p) rest h =
      rw (ne_eqb b sep h.0) (cut_at (got ++ (b ∷ [])) p rest h.1 ∙ ap (λ (l : List ℕ). l ∷ cut sep [] rest) (append_assoc got (b ∷ []) p))

  pub pieces_at : (p rest : List ℕ) → Free sep p → pieces sep (p ++ (sep ∷ rest)) ≡ p ∷ pieces sep rest
  unfolding pieces
  pieces_at p rest h = cut_at [] p rest h

  pub pieces_parted : (p : List ℕ) (ps : List (List ℕ)) → Every (Free sep) (p ∷ ps) → pieces sep (parted sep (p ∷ ps)) ≡ p ∷ ps
  unfolding pieces
  pieces_parted p [] h = cut_free [] p h.0
  pieces_parted p (q ∷ ps) h = pieces_at p (parted sep (q ∷ ps)) h.0 ∙ ap (λ (l : List (List ℕ)). p ∷ l) (pieces_parted q ps h.1)

  -- put together by another separator they are still without this one
  pub free_parted : (s : ℕ) → (s ≡ sep → ⊥) → (ps : List (List ℕ)) → Every (Free sep) ps → Free sep (parted s ps)
  free_parted s e [] h = tt
  free_parted s e (p ∷ []) h = h.0
  free_parted s e (p ∷ q ∷ ps) h = all_join (λ (b : ℕ). b ≡ sep → ⊥) p (s ∷ parted s (q ∷ ps)) h.0 (e, free_parted s e (q ∷ ps) h.1)

-- decimals
abbrev pub Digit : ℕ → Type 0
Digit b = (48 ≤ b) × (b < 58)

decimal_digits_by : (f n : ℕ) → n ≤ f → All Digit (decimal_by f n)
decimal_digits_by zero n h = ((omega arith, omega arith), tt)
decimal_digits_by (suc f) n h =
    by_test (All Digit) (ltb n 10) _ _
    (λ e. let l = ltb-true n 10 e in ((omega arith, omega arith), tt))
    (λ e. let l = ltb-false n 10 e in
    all_join Digit (decimal_by f (n / 10)) ((48 + n % 10) ∷ []) (decimal_digits_by f (n / 10) (omega arith)) ((omega arith, omega arith), tt))

decimal_digits : (n : ℕ) → All Digit (decimal n)
unfolding decimal
decimal_digits n = decimal_digits_by n n (omega arith)

-- a text that begins with a byte of k or more
pub record Begins (k : ℕ) (l : List ℕ) : Type 0 where
  pub some : 0 < length l
  pub first : k ≤ cell l 0

begins_append : (k : ℕ) (xs ys : List ℕ) → Begins k xs → Begins k (xs ++ ys)
begins_append k [] ys h = absurd (not-suc-le-zero h.some)
begins_append k (x ∷ xs) ys h = record { some = omega arith; first = h.first }

begins_parted : (k sep : ℕ) (p : List ℕ) (ps : List (List ℕ)) → Begins k p → Begins k (parted sep (p ∷ ps))
begins_parted k sep p [] h = h
begins_parted k sep p (q ∷ ps) h = begins_append k p (sep ∷ parted sep (q ∷ ps)) h

-- no zero leads
decimal_begins_by : (f n k : ℕ) → n ≤ f → k ≤ 1 → k ≤ n → Begins (48 + k) (decimal_by f n)
decimal_begins_by zero n k h l m = record { some = omega arith; first = omega arith }
decimal_begins_by (suc f) n k h l m =
    by_test (Begins (48 + k)) (ltb n 10) _ _
    (λ e. record { some = omega arith; first = omega arith })
    (λ e. let g = ltb-false n 10 e in
    begins_append (48 + k) (decimal_by f (n / 10)) ((48 + n % 10) ∷ []) (decimal_begins_by f (n / 10) k (omega arith) l (omega arith)))

decimal_begins : (n : ℕ) → Begins 48 (decimal n)
unfolding decimal
decimal_begins n = decimal_begins_by n n 0 (omega arith) (omega arith) (omega arith)

bind_some : {A : Type 0} (m : Option A) → (m >>= (λ (x : A). some x)) ≡ m
bind_some none = refl
bind_some (some a) = refl

digits_turn : (m : Option ℕ) (xs : List ℕ) (b : ℕ) → ((v : ℕ) → digits v (xs ++ (b ∷ [])) ≡ (digits v xs >>= (λ (w : ℕ). digit w b)))
    → (m >>= (λ (x : ℕ). digits x (xs ++ (b ∷ [])))) ≡ ((m >>= (λ (x : ℕ). digits x xs)) >>= (λ (w : ℕ). digit w b))
digits_turn none xs b h = refl
digits_turn (some v) xs b h = h v

digits_last : (xs : List ℕ) (b v : ℕ) → digits v (xs ++ (b ∷ [])) ≡ (digits v xs >>= (λ (w : ℕ). digit w b))
digits_last [] b v = bind_some (digit v b)
digits_last (x ∷ xs) b v = digits_turn (digit v x) xs b (digits_last xs b)

digit_next : (q r n : ℕ) → r < 10 → q * 10 + r ≡ n → n ≤ greatest → digit q (48 + r) ≡ some n
unfolding digit
digit_next q r n h t m =
    let e : 48 + r - 48 ≡ r = omega arith in
    rw (le-ltb (48 + r) 48 (omega arith), le-ltb 57 (48 + r) (omega arith), e, t, le-ltb greatest n m)

digits_decimal : (f n : ℕ) → n ≤ f → n ≤ greatest → digits 0 (decimal_by f n) ≡ some n
digits_decimal zero n h m = bind_some (digit 0 (48 + n)) ∙ digit_next 0 n n (omega arith) (omega arith) m
digits_decimal (suc f) n h m =
    by_test (λ (l : List ℕ). digits 0 l ≡ some n) (ltb n 10) _ _
    (λ e. bind_some (digit 0 (48 + n)) ∙ digit_next 0 n n (ltb-true n 10 e) (omega arith) m)
    (λ e. let g = ltb-false n 10 e in
    let d = digits_decimal f (n / 10) (omega arith) (omega arith) in
    digits_last (decimal_by f (n / 10)) (48 + n % 10) 0
    ∙ ap (λ (m : Option ℕ). m >>= (λ (w : ℕ). digit w (48 + n % 10))) d
    ∙ digit_next (n / 10) (n % 10) n (omega arith) (omega arith) m)

number_plain : (l : List ℕ) → Begins 49 l → number l ≡ digits 0 l
unfolding number
number_plain [] h = absurd (not-suc-le-zero h.some)
number_plain (b ∷ []) h = refl
number_plain (b ∷ c ∷ bs) h = let f = h.first in rw (ne_eqb b 48 (λ e. omega arith))

zero_read : number (decimal_by 0 0) ≡ some 0
unfolding number digit
zero_read = refl

-- a number's decimal is read as the number
pub number_decimal : (n : ℕ) → n ≤ greatest → number (decimal n) ≡ some n
unfolding decimal
number_decimal n m =
    ⊎_elim (λ (e : 0 ≡ n). subst (λ (k : ℕ). number (decimal_by k k) ≡ some k) e zero_read)
    (λ (l : 0 < n). number_plain (decimal_by n n) (decimal_begins_by n n 1 (omega arith) (omega arith) l) ∙ digits_decimal n n (omega arith) m)
    (eq-or-lt_of_le {n = 0} {m = n} (omega arith))

-- lists of numbers of the text
abbrev pub Numbers : List ℕ → Type 0
Numbers xs = All (λ (x : ℕ). x ≤ greatest) xs

pub digits_over : (k n : ℕ) → k ≤ 48 → Over k (decimal n)
digits_over k n h = all_more Digit (λ (b : ℕ). k ≤ b) (λ b d. let z = d.0 in omega arith) (decimal n) (decimal_digits n)

digits_before : (n : ℕ) → Free colon (decimal n)
digits_before n = all_more Digit (λ (b : ℕ). b ≡ colon → ⊥) (λ b d e. let z = d.1 in omega arith) (decimal n) (decimal_digits n)

not_dash : (l : List ℕ) → Begins 48 l → eq_list l dash ≡ false
not_dash [] h = absurd (not-suc-le-zero h.some)
not_dash (b ∷ l) h = let f = h.first in rw (ne_eqb b 45 (λ e. omega arith))

-- texts of elements, each without commas, as they stand in a list
pub record Element (one : List ℕ → Option (List ℕ)) (p x : List ℕ) : Type 0 where
  pub read : one p ≡ some x
  pub begins : Begins 48 p
  pub over : Over 45 p

single_decimal : (x : ℕ) → x ≤ greatest → Element single (decimal x) (x ∷ [])
single_decimal x h =
    record { read = ap (λ (m : Option ℕ). m >>= (λ (n : ℕ). some (n ∷ []))) (number_decimal x h); begins = decimal_begins x; over = digits_over 45 x (omega arith) }

-- a list's text, read as one list or as none
list_read : (w : ℕ) (one : List ℕ → Option (List ℕ)) (p : List ℕ) (ps : List (List ℕ)) (xs : List ℕ) → Begins 48 p → Every (Over 45) (p ∷ ps)
    → elements one (p ∷ ps) ≡ some xs → list_of w one (list_text (p ∷ ps)) ≡ some (length xs / w ∷ xs)
list_read w one p ps xs b o e =
    rw (not_dash (parted comma (p ∷ ps)) (begins_parted 48 comma p ps b))
    (ap (λ (l : List (List ℕ)). counted w (elements one l)) (pieces_parted comma p ps (every_more (Over 45) (Free comma) (over_free comma 45 (omega arith)) (p ∷ ps) o))
    ∙ ap (counted w) e)

decimals_over : (k : ℕ) → k ≤ 48 → (xs : List ℕ) → Every (Over k) (map decimal xs)
decimals_over k h [] = tt
decimals_over k h (x ∷ xs) = (digits_over k x h, decimals_over k h xs)

elements_decimal : (xs : List ℕ) → Numbers xs → elements single (map decimal xs) ≡ some xs
elements_decimal [] h = refl
elements_decimal (x ∷ xs) h =
    rw (single_decimal x h.0).read
    (ap (λ (m : Option (List ℕ)). m >>= (λ (ys : List ℕ). some (x ∷ ys))) (elements_decimal xs h.1))

numbers_read : (xs : List ℕ) → Numbers xs → list_of 1 single (list_text (map decimal xs)) ≡ some (length xs ∷ xs)
numbers_read [] h = refl
numbers_read (x ∷ xs) h =
    let z : length (x ∷ xs) / 1 ≡ length (x ∷ xs) = omega arith in
    list_read 1 single (decimal x) (map decimal xs) (x ∷ xs) (decimal_begins x) (decimals_over 45 (omega arith) (x ∷ xs)) (elements_decimal (x ∷ xs) h)
    ∙ ap (λ (k : ℕ). some (k ∷ x ∷ xs)) z

-- fields of a set
abbrev keyed_in : List ℕ → Option (List ℕ)
keyed_in p = keyed (pieces colon p)

field_decimal : (k i : ℕ) → k ≤ greatest → i ≤ greatest → Element keyed_in (decimal k ++ (colon ∷ decimal i)) (k ∷ i ∷ [])
field_decimal k i h l =
    record {
      read = ap keyed (pieces_parted colon (decimal k) (decimal i ∷ []) (digits_before k, (digits_before i, tt))) ∙ rw (number_decimal k h, number_decimal i l);
      begins = begins_append 48 (decimal k) (colon ∷ decimal i) (decimal_begins k);
      over = all_join (λ (b : ℕ). 45 ≤ b) (decimal k) (colon ∷ decimal i) (digits_over 45 k (omega arith)) (omega arith, digits_over 45 i (omega arith));
    }

elements_fields : (fs : List Field) → Numbers (field_words fs) → elements keyed_in (keyed_text (field_words fs)) ≡ some (field_words fs)
elements_fields [] h = refl
elements_fields (f ∷ fs) h =
    rw (field_decimal f.key f.type h.0 h.1.0).read
    (ap (λ (m : Option (List ℕ)). m >>= (λ (ys : List ℕ). some (f.key ∷ f.type ∷ ys))) (elements_fields fs h.1.1))

fields_over : (fs : List Field) → Numbers (field_words fs) → Every (Over 45) (keyed_text (field_words fs))
fields_over [] h = tt
fields_over (f ∷ fs) h = ((field_decimal f.key f.type h.0 h.1.0).over, fields_over fs h.1.1)

fields_read : (fs : List Field) → Numbers (field_words fs) → list_of 2 keyed_in (list_text (keyed_text (field_words fs))) ≡ some (length fs ∷ field_words fs)
fields_read [] h = refl
fields_read (f ∷ fs) h =
    let e = field_words_length (f ∷ fs) in
    let z : length (field_words (f ∷ fs)) / 2 ≡ length (f ∷ fs) = omega arith in
    list_read 2 keyed_in (decimal f.key ++ (colon ∷ decimal f.type)) (keyed_text (field_words fs)) (field_words (f ∷ fs))
    (field_decimal f.key f.type h.0 h.1.0).begins (fields_over (f ∷ fs) h) (elements_fields (f ∷ fs) h)
    ∙ ap (λ (k : ℕ). some (k ∷ field_words (f ∷ fs))) z

-- the words x of a field of sort k: what is written of them is read as them, by plain bytes, and they are as many as they say
pub record Says (k : ℕ) (x : List ℕ) : Type 0 where
  pub read : field_of k (field_text k x) ≡ some x
  pub over : Over 43 (field_text k x)
  pub width : (ws : List ℕ) → words_of k (x ++ ws) ≡ length x

pub says_number : (x : ℕ) → x ≤ greatest → Says a_number (x ∷ [])
unfolding field_of field_text
says_number x h = record { read = (single_decimal x h).read; over = digits_over 43 x (omega arith); width = λ ws. refl }

up_to_read : (m x : ℕ) → x ≤ m → m ≤ greatest → up_to m (decimal x) ≡ some (x ∷ [])
up_to_read m x h l = rw (number_decimal x (omega arith), le-leb x m h)

pub says_code : (x : ℕ) → x ≤ 31 → Says a_code (x ∷ [])
unfolding field_of field_text
says_code x h = record { read = up_to_read 31 x h (omega arith); over = digits_over 43 x (omega arith); width = λ ws. refl }

pub says_flag : (x : ℕ) → x ≤ 1 → Says a_flag (x ∷ [])
unfolding field_of field_text
says_flag x h = record { read = up_to_read 1 x h (omega arith); over = digits_over 43 x (omega arith); width = λ ws. refl }

over_parted : (k sep : ℕ) → k ≤ sep → (ps : List (List ℕ)) → Every (Over k) ps → Over k (parted sep ps)
over_parted k sep h [] o = tt
over_parted k sep h (p ∷ []) o = o.0
over_parted k sep h (p ∷ q ∷ ps) o = all_join (λ (b : ℕ). k ≤ b) p (sep ∷ parted sep (q ∷ ps)) o.0 (h, over_parted k sep h (q ∷ ps) o.1)

over_list : (ps : List (List ℕ)) → Every (Over 45) ps → Over 43 (list_text ps)
over_list [] o = (omega arith, tt)
over_list (p ∷ ps) o = over_parted 43 comma (omega arith) (p ∷ ps) (every_more (Over 45) (Over 43) (λ l h. all_more (λ (b : ℕ). 45 ≤ b) (λ (b : ℕ). 43 ≤ b) (λ b le. omega arith) l h) (p ∷ ps) o)

pub says_list : (xs : List ℕ) → Numbers xs → Says a_list (length xs ∷ xs)
unfolding field_of field_text
says_list xs h = record { read = numbers_read xs h; over = over_list (map decimal xs) (decimals_over 45 (omega arith) xs); width = λ ws. omega arith }

pub says_fields : (fs : List Field) → Numbers (field_words fs) → Says some_fields (length fs ∷ field_words fs)
unfolding field_of field_text
says_fields fs h =
    record { read = fields_read fs h; over = over_list (keyed_text (field_words fs)) (fields_over fs h); width = λ ws. omega (arith, field_words_length fs) }

dyn_read : (d : ℕ) → d ≤ greatest → dyn_of (decimal d) ≡ some (1 ∷ d ∷ [])
dyn_read d h = rw (not_dash (decimal d) (decimal_begins d)) (ap (counted 1) (single_decimal d h).read)

pub says_dyn : (d : Option ℕ) → Numbers (dyn_words d) → Says a_dyn (dyn_words d)
unfolding field_of field_text
says_dyn none h = record { read = refl; over = (omega arith, tt); width = λ ws. refl }
says_dyn (some d) h = record { read = dyn_read d h.1.0; over = digits_over 43 d (omega arith); width = λ ws. refl }

pub says_sign : (s : ℕ) → s ≤ 1 → Says a_sign (s ∷ [])
unfolding field_of field_text
says_sign zero h = record { read = refl; over = (omega arith, tt); width = λ ws. refl }
says_sign (suc zero) h = record { read = refl; over = (omega arith, tt); width = λ ws. refl }
says_sign (suc (suc s)) h = absurd (omega arith)

-- words that fall into fields of these sorts
pub data Shaped : List ℕ → List ℕ → Type 0 where
  end : Shaped [] []
  then : {k : ℕ} {ks x ws : List ℕ} → Says k x → Shaped ks ws → Shaped (k ∷ ks) (x ++ ws)

-- are written in as many texts, which are read as these words
pub record Reads (ks ws : List ℕ) : Type 0 where
  pub is : by_shape ks (shape_texts ks ws) ≡ some ws
  pub over : Every (Over 43) (shape_texts ks ws)

reads_more : (k : ℕ) (ks x ws : List ℕ) → Says k x → Reads ks ws → Reads (k ∷ ks) (x ++ ws)
reads_more k ks x ws s r =
    let w = s.width ws in
    let e : shape_texts (k ∷ ks) (x ++ ws) ≡ field_text k x ∷ shape_texts ks ws =
    ap₂ {C = List (List ℕ)} (λ (y z : List ℕ). field_text k y ∷ shape_texts ks z) (take_at x ws (words_of k (x ++ ws)) (sym w)) (drop_at x ws (words_of k (x ++ ws)) (sym w)) in
    record {
      is = ap (by_shape (k ∷ ks)) e
          ∙ ap (λ (m : Option (List ℕ)). m >>= (λ (y : List ℕ). by_shape ks (shape_texts ks ws) >>= (λ (ys : List ℕ). some (y ++ ys)))) s.read
          ∙ ap (λ (m : Option (List ℕ)). m >>= (λ (ys : List ℕ). some (x ++ ys))) r.is;
      over = subst (Every (Over 43)) (sym e) (s.over, r.over);
    }

pub shaped_reads : {ks ws : List ℕ} → Shaped ks ws → Reads ks ws
shaped_reads end = record { is = refl; over = tt }
shaped_reads (then {k} {ks} {x} {ws} s r) = reads_more k ks x ws s (shaped_reads r)
