-- A row that the rules' reader takes is as long as its kind and its counts say: it is that of the entry it says, and its code, flag and sign
-- are within their bounds. Assumes nothing.
use mathlib.Core.Path.{◌≡◌, refl, sym, ap, ap₂, ◌∙◌, subst}
use mathlib.Core.Bool.{Bool, true, false}
use Prim.Native.Nat.{ℕ, suc, ◌+◌, ◌-◌, ◌*◌, ◌/◌, ◌≤◌, ◌<◌}
use native.Mathlib.Omega.{arith}
use mathlib.Core.List.{List, [], ◌∷◌, ◌++◌, append-nil, append_assoc}
use lib.ListN.{length, drop}
use lib.Dec.{eqb, ltb, leb}
use borrow.Author.Tests.{ltb-false, leb-true}
use Rattle.cells.specs.Part.{eq_list, cell, part}
use Rattle.cells.proofs.Choices.{by_branch, by_test}
use Rattle.cells.proofs.Holding.{holds_place, holds_head, holds_tail, holds_left, holds_right, holds_end}
use Rattle.rules.specs.Plain.{ascii, ◌>>=◌, given}
use Rattle.rules.specs.Text.{comma, colon, tab, dash, pieces, greatest, digit, digits, number, elements, list_of, single, keyed, up_to, dyn_of, a_number, a_code, a_flag}
use Rattle.rules.specs.Text.{a_list, a_dyn, some_fields, a_sign, a_name, field_of, by_shape, Kind, tagged, record_in, by_word, row_of}
use Rattle.rules.specs.Table.{Field, Attr, Entry, var, prim, tyvar, list, fn, set, neg, named, inter, union, frozen, kinds, section_of, entry_of, entry_kind, frozen_entry}
use Rattle.rules.specs.Types.{field_words, dyn_words, attr_words}
use Rattle.laws.proofs.Rows.{field_words_length, set_read}
use Rattle.cells.specs.Placed.{Holds}
use mathlib.Core.Option.{Option, none, some}

-- the words after the kind of an entry
abbrev pub rest_words : Entry → List ℕ
rest_words (var l u) = length l ∷ (l ++ (length u ∷ u))
rest_words (prim c) = c ∷ []
rest_words (tyvar x) = x ∷ []
rest_words (list a) = a ∷ []
rest_words (fn a b) = a ∷ b ∷ []
rest_words (set t) = attr_words t
rest_words (neg a) = a ∷ []
rest_words (named n a) = n ∷ a ∷ []
rest_words (inter a b) = a ∷ b ∷ []
rest_words (union a b) = a ∷ b ∷ []
rest_words frozen = []

-- the row of an entry
abbrev pub row_words : Entry → List ℕ
row_words e = entry_kind e ∷ rest_words e

-- the row of a variable says its bounds
module _ (l u : List ℕ) where
  abbrev here : List ℕ
  here = row_words (var l u)

  behind : Holds here 2 (l ++ (length u ∷ u))
  behind = holds_end (2 ∷ length l ∷ []) (l ++ (length u ∷ u))

  upper : Holds here (2 + length l) (length u ∷ u)
  upper = holds_right l (length u ∷ u) behind

  lower_read : part here 2 (length l) ≡ l
  lower_read = (holds_left l (length u ∷ u) behind).is

  upper_read : part here (3 + length l) (cell here (2 + length l)) ≡ u
  upper_read =
      let h : Holds here (3 + length l) u = holds_place (omega arith) (holds_tail upper) in
      ap (part here (3 + length l)) (holds_head upper) ∙ h.is

-- an entry is what its row says
entry_read : (e : Entry) → entry_of (row_words e) ≡ e
unfolding entry_of
entry_read (var l u) = ap₂ {C = Entry} var (lower_read l u) (upper_read l u)
entry_read (prim c) = refl
entry_read (tyvar x) = refl
entry_read (list a) = refl
entry_read (fn a b) = refl
entry_read (set t) = ap set (set_read t (holds_end (7 ∷ []) (attr_words t)))
entry_read (neg a) = refl
entry_read (named n a) = refl
entry_read (inter a b) = refl
entry_read (union a b) = refl
entry_read frozen = refl

-- what the reader says of an entry by itself
abbrev pub ReadEntry : Entry → Type 0
ReadEntry (var l u) = Unit {0}
ReadEntry (prim c) = c ≤ 31
ReadEntry (tyvar x) = x ≤ greatest
ReadEntry (list a) = Unit {0}
ReadEntry (fn a b) = Unit {0}
ReadEntry (set a) = a.is_open ≤ 1
ReadEntry (neg a) = Unit {0}
ReadEntry (named n a) = Unit {0}
ReadEntry (inter a b) = Unit {0}
ReadEntry (union a b) = Unit {0}
ReadEntry frozen = ⊥

-- the row is that of the entry that it says; a frozen one is read, and refused later
pub record Shaped (row : List ℕ) : Type 0 where
  pub is : row ≡ row_words (entry_of row)
  pub read : (cell row 0 ≡ frozen_entry → ⊥) → ReadEntry (entry_of row)

-- the row of an entry is
shaped : {row : List ℕ} (e : Entry) → row ≡ row_words e → ((entry_kind e ≡ frozen_entry → ⊥) → ReadEntry e) → Shaped row
shaped e h r =
    let z = ap entry_of h ∙ entry_read e in
    record { is = h ∙ ap row_words (sym z); read = λ f. subst ReadEntry (sym z) (r (λ k. f (ap (λ (l : List ℕ). cell l 0) h ∙ k))) }

-- what is given, if anything, is so
abbrev pub Gives : {A : Type 0} → (A → Type 0) → Option A → Type 0
Gives P none = Unit {0}
Gives P (some a) = P a

gives_then : {A B : Type 0} (P : A → Type 0) (Q : B → Type 0) (m : Option A) (f : A → Option B)
    → Gives P m → ((a : A) → P a → Gives Q (f a)) → Gives Q (m >>= f)
gives_then P Q none f h g = tt
gives_then P Q (some a) f h g = g a h

gives_each : {A B : Type 0} (Q : B → Type 0) (m : Option A) (f : A → Option B) → ((a : A) → Gives Q (f a)) → Gives Q (m >>= f)
gives_each Q none f g = tt
gives_each Q (some a) f g = g a

-- a number that is read is one of the text
abbrev Most : ℕ → Type 0
Most n = n ≤ greatest

digit_most : (v b : ℕ) → Gives Most (digit v b)
unfolding digit
digit_most v b =
    by_branch (Gives Most) (ltb b 48) _ _ tt
    (by_branch (Gives Most) (ltb 57 b) _ _ tt
    (by_test (Gives Most) (ltb greatest (v * 10 + (b - 48))) _ _ (λ e. tt) (λ e. ltb-false greatest (v * 10 + (b - 48)) e)))

digits_most : (l : List ℕ) (v : ℕ) → v ≤ greatest → Gives Most (digits v l)
digits_most [] v h = h
digits_most (b ∷ l) v h = gives_then Most Most (digit v b) (λ (x : ℕ). digits x l) (digit_most v b) (λ x g. digits_most l x g)

number_most : (l : List ℕ) → Gives Most (number l)
unfolding number
number_most [] = tt
number_most (b ∷ []) = digits_most (b ∷ []) 0 (omega arith)
number_most (b ∷ c ∷ l) = by_branch (Gives Most) (eqb b 48) _ _ tt (digits_most (b ∷ c ∷ l) 0 (omega arith))

-- what the words of fields are: a number of at most m
record One (m : ℕ) (xs : List ℕ) : Type 0 where
  it : ℕ
  most : it ≤ m
  is : xs ≡ it ∷ []

-- two numbers, the second of at most m
record Two (m : ℕ) (xs : List ℕ) : Type 0 where
  first : ℕ
  second : ℕ
  most : second ≤ m
  is : xs ≡ first ∷ second ∷ []

-- a list after its length
record Listed (xs : List ℕ) : Type 0 where
  items : List ℕ
  is : xs ≡ length items ∷ items

-- two such lists
record Bounds (xs : List ℕ) : Type 0 where
  lower : List ℕ
  upper : List ℕ
  is : xs ≡ length lower ∷ (lower ++ (length upper ∷ upper))

-- a field of a set, such fields, and fields after their count
record Paired (xs : List ℕ) : Type 0 where
  field : Field
  is : xs ≡ field.key ∷ field.type ∷ []

record Fields (xs : List ℕ) : Type 0 where
  fields : List Field
  is : xs ≡ field_words fields

record Counted (xs : List ℕ) : Type 0 where
  fields : List Field
  is : xs ≡ length fields ∷ field_words fields

-- a dyn
record Dyn (xs : List ℕ) : Type 0 where
  dyn : Option ℕ
  is : xs ≡ dyn_words dyn

-- a set
record Attrs (xs : List ℕ) : Type 0 where
  attr : Attr
  opens : attr.is_open ≤ 1
  is : xs ≡ attr_words attr

single_one : (f : List ℕ) → Gives (One greatest) (single f)
single_one f = gives_then Most (One greatest) (number f) _ (number_most f) (λ n h. record { it = n; most = h; is = refl })

given_one : (b : Bool) (m n : ℕ) → (b ≡ true → n ≤ m) → Gives (One m) (given b (n ∷ []))
given_one true m n h = record { it = n; most = h refl; is = refl }
given_one false m n h = tt

up_to_one : (m : ℕ) (f : List ℕ) → Gives (One m) (up_to m f)
up_to_one m f = gives_each (One m) (number f) _ (λ n. given_one (leb n m) m n (leb-true n m))

list_listed : (f : List ℕ) → Gives Listed (list_of 1 single f)
list_listed f =
    by_branch (Gives Listed) (eq_list f dash) _ _ (record { items = []; is = refl })
    (gives_each Listed (elements single (pieces comma f)) _
    (λ xs. let z : length xs / 1 ≡ length xs = omega arith in record { items = xs; is = ap (λ (k : ℕ). k ∷ xs) z }))

dyn_dyn : (f : List ℕ) → Gives Dyn (dyn_of f)
dyn_dyn f =
    by_branch (Gives Dyn) (eq_list f dash) _ _ (record { dyn = none; is = refl })
    (gives_then (One greatest) Dyn (single f) _ (single_one f)
    (λ xs o. record { dyn = some o.it; is = ap (λ (l : List ℕ). length l / 1 ∷ l) o.is }))

keyed_pair : (ps : List (List ℕ)) → Gives Paired (keyed ps)
keyed_pair [] = tt
keyed_pair (k ∷ []) = tt
keyed_pair (k ∷ i ∷ []) =
    gives_each Paired (number k) _
    (λ x. gives_each Paired (number i) _ (λ y. record { field = record { key = x; type = y }; is = refl }))
keyed_pair (k ∷ i ∷ j ∷ js) = tt

-- a field as it is read
abbrev keyed_in : List ℕ → Option (List ℕ)
keyed_in p = keyed (pieces colon p)

elements_fields : (ps : List (List ℕ)) → Gives Fields (elements keyed_in ps)
elements_fields [] = record { fields = []; is = refl }
elements_fields (p ∷ ps) =
    gives_then Paired Fields (keyed_in p) _ (keyed_pair (pieces colon p))
    (λ x h. gives_then Fields Fields (elements keyed_in ps) _ (elements_fields ps)
    (λ xs g. record { fields = h.field ∷ g.fields; is = ap₂ {C = List ℕ} ◌++◌ h.is g.is }))

fields_counted : (f : List ℕ) → Gives Counted (list_of 2 keyed_in f)
fields_counted f =
    by_branch (Gives Counted) (eq_list f dash) _ _ (record { fields = []; is = refl })
    (gives_then Fields Counted (elements keyed_in (pieces comma f)) _ (elements_fields (pieces comma f))
    (λ xs h. let e = ap length h.is ∙ field_words_length h.fields in
    let z : length xs / 2 ≡ length h.fields = omega arith in
    record { fields = h.fields; is = ap₂ {C = List ℕ} ◌∷◌ z h.is }))

-- the field of each sort
number_field : (p : List ℕ) → Gives (One greatest) (field_of a_number p)
unfolding field_of
number_field p = single_one p

code_field : (p : List ℕ) → Gives (One 31) (field_of a_code p)
unfolding field_of
code_field p = up_to_one 31 p

flag_field : (p : List ℕ) → Gives (One 1) (field_of a_flag p)
unfolding field_of
flag_field p = up_to_one 1 p

list_field : (p : List ℕ) → Gives Listed (field_of a_list p)
unfolding field_of
list_field p = list_listed p

dyn_field : (p : List ℕ) → Gives Dyn (field_of a_dyn p)
unfolding field_of
dyn_field p = dyn_dyn p

sign_field : (p : List ℕ) → Gives (One 1) (field_of a_sign p)
unfolding field_of
sign_field p =
    by_branch (Gives (One 1)) (eq_list p (ascii "+")) _ _ (record { it = 0; most = omega arith; is = refl })
    (given_one (eq_list p dash) 1 1 (λ _. omega arith))

some_fields_lem : (p : List ℕ) → Gives Counted (field_of some_fields p)
unfolding field_of
some_fields_lem p = fields_counted p

-- fields one after the other
shape_none : (fs : List (List ℕ)) → Gives (λ (xs : List ℕ). xs ≡ []) (by_shape [] fs)
shape_none [] = refl
shape_none (p ∷ ps) = tt

shape_more : (P Q R : List ℕ → Type 0) (k : ℕ) (ks : List ℕ) → ((p : List ℕ) → Gives P (field_of k p))
    → ((fs : List (List ℕ)) → Gives Q (by_shape ks fs)) → ((x xs : List ℕ) → P x → Q xs → R (x ++ xs))
    → (fs : List (List ℕ)) → Gives R (by_shape (k ∷ ks) fs)
shape_more P Q R k ks f g h [] = tt
shape_more P Q R k ks f g h (p ∷ ps) =
    gives_then P R (field_of k p) _ (f p) (λ x a. gives_then Q R (by_shape ks ps) _ (g ps) (λ xs b. h x xs a b))

shape_last : (P : List ℕ → Type 0) (k : ℕ) → ((p : List ℕ) → Gives P (field_of k p))
    → (fs : List (List ℕ)) → Gives P (by_shape (k ∷ []) fs)
shape_last P k f =
    shape_more P (λ (xs : List ℕ). xs ≡ []) P k [] f shape_none
    (λ x xs a b. subst P (sym (ap (λ (l : List ℕ). x ++ l) b ∙ append-nil x)) a)

two_words : (m k : ℕ) → ((p : List ℕ) → Gives (One m) (field_of k p)) → (fs : List (List ℕ)) → Gives (Two m) (by_shape (a_number ∷ k ∷ []) fs)
two_words m k f =
    shape_more (One greatest) (One m) (Two m) a_number (k ∷ []) number_field (shape_last (One m) k f)
    (λ x xs a b. record { first = a.it; second = b.it; most = b.most; is = ap₂ {C = List ℕ} ◌++◌ a.is b.is })

two_lists : (fs : List (List ℕ)) → Gives Bounds (by_shape (a_list ∷ a_list ∷ []) fs)
two_lists =
    shape_more Listed Listed Bounds a_list (a_list ∷ []) list_field (shape_last Listed a_list list_field)
    (λ x xs a b. record { lower = a.items; upper = b.items; is = ap₂ {C = List ℕ} ◌++◌ a.is b.is })

-- the end of a set: its open flag and its optional keys, and its dyn before them
record Ending (xs : List ℕ) : Type 0 where
  is_open : ℕ
  opens : is_open ≤ 1
  optional : List ℕ
  is : xs ≡ is_open ∷ length optional ∷ optional

record DynEnding (xs : List ℕ) : Type 0 where
  dyn : Option ℕ
  is_open : ℕ
  opens : is_open ≤ 1
  optional : List ℕ
  is : xs ≡ dyn_words dyn ++ (is_open ∷ length optional ∷ optional)

set_end : (fs : List (List ℕ)) → Gives Ending (by_shape (a_flag ∷ a_list ∷ []) fs)
set_end =
    shape_more (One 1) Listed Ending a_flag (a_list ∷ []) flag_field (shape_last Listed a_list list_field)
    (λ x xs a b. record { is_open = a.it; opens = a.most; optional = b.items; is = ap₂ {C = List ℕ} ◌++◌ a.is b.is })

set_dyn_end : (fs : List (List ℕ)) → Gives DynEnding (by_shape (a_dyn ∷ a_flag ∷ a_list ∷ []) fs)
set_dyn_end =
    shape_more Dyn Ending DynEnding a_dyn (a_flag ∷ a_list ∷ []) dyn_field set_end
    (λ x xs a b. record { dyn = a.dyn; is_open = b.is_open; opens = b.opens; optional = b.optional; is = ap₂ {C = List ℕ} ◌++◌ a.is b.is })

set_words : (fs : List (List ℕ)) → Gives Attrs (by_shape (some_fields ∷ a_dyn ∷ a_flag ∷ a_list ∷ []) fs)
set_words =
    shape_more Counted DynEnding Attrs some_fields (a_dyn ∷ a_flag ∷ a_list ∷ []) some_fields_lem set_dyn_end
    (λ x xs a b. record {
      attr = record { fields = a.fields; dyn = b.dyn; is_open = b.is_open; optional = b.optional };
      opens = b.opens;
      is = ap₂ {C = List ℕ} ◌++◌ a.is b.is
          ∙ ap (λ (l : List ℕ). length a.fields ∷ l)
          (sym (append_assoc (field_words a.fields) (dyn_words b.dyn) (b.is_open ∷ length b.optional ∷ b.optional)));
    })

-- of n words
abbrev pub Long : ℕ → List ℕ → Type 0
Long n row = length row ≡ n

-- what a row of section s is: that of the entry it says; after its kind a pair has two ids, a mark one, and a root an id and a sign
pub record Formal (s : ℕ) (row : List ℕ) : Type 0 where
  pub entry : s ≡ 2 → Shaped row
  pub pair : s ≡ 3 → Long 2 (drop 1 row)
  pub mark : s ≡ 4 → Long 1 (drop 1 row)
  pub root : 5 ≤ s → Long 2 (drop 1 row)
  pub sign : 5 ≤ s → cell (drop 1 row) 1 ≤ 1

-- the row is as its section asks
abbrev pub Entered : List ℕ → Type 0
Entered row = Formal (section_of (cell row 0)) row

entered : (Q : List ℕ → Type 0) (n : ℕ) (m : Option (List ℕ)) → section_of n ≡ 2 → Gives Q m
    → ((xs : List ℕ) → Q xs → Shaped (n ∷ xs)) → Gives Entered (tagged n m)
entered Q n m s h f =
    gives_then Q Entered m _ h
    (λ xs q. record {
      entry = λ _. f xs q;
      pair = λ (e : section_of n ≡ 3). absurd (omega arith);
      mark = λ (e : section_of n ≡ 4). absurd (omega arith);
      root = λ (e : 5 ≤ section_of n). absurd (omega arith);
      sign = λ (e : 5 ≤ section_of n). absurd (omega arith);
    })

outside : (n : ℕ) (m : Option (List ℕ)) → section_of n < 2 → Gives Entered (tagged n m)
outside n m f =
    gives_each Entered m _
    (λ xs. record {
      entry = λ (e : section_of n ≡ 2). absurd (omega arith);
      pair = λ (e : section_of n ≡ 3). absurd (omega arith);
      mark = λ (e : section_of n ≡ 4). absurd (omega arith);
      root = λ (e : 5 ≤ section_of n). absurd (omega arith);
      sign = λ (e : 5 ≤ section_of n). absurd (omega arith);
    })

-- a pair, a mark or a root
plain_entered : (Q : List ℕ → Type 0) (n : ℕ) (m : Option (List ℕ)) → 3 ≤ section_of n → Gives Q m
    → ((xs : List ℕ) → Q xs → (section_of n ≡ 3 → Long 2 xs) × (section_of n ≡ 4 → Long 1 xs) × (5 ≤ section_of n → Long 2 xs × (cell xs 1 ≤ 1)))
    → Gives Entered (tagged n m)
plain_entered Q n m s h f =
    gives_then Q Entered m _ h
    (λ xs q. let g = f xs q in
    record {
      entry = λ (e : section_of n ≡ 2). absurd (omega arith);
      pair = g.0;
      mark = g.1;
      root = λ e. (g.2 e).0;
      sign = λ e. (g.2 e).1;
    })

one_entered : (n m : ℕ) (make : ℕ → Entry) → section_of n ≡ 2 → ((x : ℕ) → row_words (make x) ≡ n ∷ x ∷ []) → ((x : ℕ) → x ≤ m → ReadEntry (make x))
    → (k : ℕ) → ((p : List ℕ) → Gives (One m) (field_of k p)) → (fs : List (List ℕ)) → Gives Entered (tagged n (by_shape (k ∷ []) fs))
one_entered n m make s e r k f fs =
    entered (One m) n (by_shape (k ∷ []) fs) s (shape_last (One m) k f fs)
    (λ xs o. shaped (make o.it) (ap (λ (l : List ℕ). n ∷ l) o.is ∙ sym (e o.it)) (λ _. r o.it o.most))

two_entered : (n : ℕ) (make : ℕ → ℕ → Entry) → section_of n ≡ 2 → ((x y : ℕ) → row_words (make x y) ≡ n ∷ x ∷ y ∷ [])
    → ((x y : ℕ) → ReadEntry (make x y)) → (fs : List (List ℕ)) → Gives Entered (tagged n (by_shape (a_number ∷ a_number ∷ []) fs))
two_entered n make s e r fs =
    entered (Two greatest) n (by_shape (a_number ∷ a_number ∷ []) fs) s (two_words greatest a_number number_field fs)
    (λ xs o. shaped (make o.first o.second) (ap (λ (l : List ℕ). n ∷ l) o.is ∙ sym (e o.first o.second)) (λ _. r o.first o.second))

-- each of the kinds, numbered from n on, gives such rows
abbrev Forms : List Kind → ℕ → Type 0
Forms [] n = Unit {0}
Forms (k ∷ ks) n = ((fs : List (List ℕ)) → Gives Entered (tagged n (by_shape k.shape fs))) × Forms ks (suc n)

record_entered : (ks : List Kind) (n : ℕ) (w : List ℕ) (fs : List (List ℕ)) → Forms ks n → Gives Entered (record_in ks n w fs)
record_entered [] n w fs h = tt
record_entered (k ∷ ks) n w fs h =
    by_branch (Gives Entered) (eq_list w k.word) _ _ (h.0 fs) (record_entered ks (suc n) w fs h.1)

word_entered : (ks : List Kind) (ps : List (List ℕ)) → Forms ks 0 → Gives Entered (by_word ks ps)
word_entered ks [] h = tt
word_entered ks (w ∷ fs) h = record_entered ks 0 w fs h

kinds_form : Forms kinds 0
unfolding section_of
kinds_form = (
  (λ fs. outside 0 (by_shape (a_number ∷ []) fs) (omega arith)),
  (
    (λ fs. outside 1 (by_shape (a_name ∷ []) fs) (omega arith)),
    (
      (λ fs. entered Bounds 2 (by_shape (a_list ∷ a_list ∷ []) fs) refl (two_lists fs)
          (λ xs o. shaped (var o.lower o.upper) (ap (λ (l : List ℕ). 2 ∷ l) o.is) (λ _. tt))),
      (
        one_entered 3 31 prim refl (λ x. refl) (λ x h. h) a_code code_field,
        (
          one_entered 4 greatest tyvar refl (λ x. refl) (λ x h. h) a_number number_field,
          (
            one_entered 5 greatest list refl (λ x. refl) (λ x h. tt) a_number number_field,
            (
              two_entered 6 fn refl (λ x y. refl) (λ x y. tt),
              (
                (λ fs. entered Attrs 7 (by_shape (some_fields ∷ a_dyn ∷ a_flag ∷ a_list ∷ []) fs) refl (set_words fs)
                    (λ xs o. shaped (set o.attr) (ap (λ (l : List ℕ). 7 ∷ l) o.is) (λ _. o.opens))),
                (
                  one_entered 8 greatest neg refl (λ x. refl) (λ x h. tt) a_number number_field,
                  (
                    two_entered 9 named refl (λ x y. refl) (λ x y. tt),
                    (
                      two_entered 10 inter refl (λ x y. refl) (λ x y. tt),
                      (
                        two_entered 11 union refl (λ x y. refl) (λ x y. tt),
                        (
                          (λ fs. entered (λ (xs : List ℕ). xs ≡ []) 12 (by_shape [] fs) refl (shape_none fs)
                              (λ xs e. shaped frozen (ap (λ (l : List ℕ). 12 ∷ l) e) (λ f. f refl))),
                          (
                            (λ fs. plain_entered (Two greatest) 13 (by_shape (a_number ∷ a_number ∷ []) fs) (omega arith) (two_words greatest a_number number_field fs)
                                (λ xs o. (λ _. ap length o.is, λ e. absurd (omega arith), λ e. absurd (omega arith)))),
                            (
                              (λ fs. plain_entered (One greatest) 14 (by_shape (a_number ∷ []) fs) (omega arith) (shape_last (One greatest) a_number number_field fs)
                                  (λ xs o. (λ e. absurd (omega arith), λ _. ap length o.is, λ e. absurd (omega arith)))),
                              (
                                (λ fs. plain_entered (Two 1) 15 (by_shape (a_number ∷ a_sign ∷ []) fs) (omega arith) (two_words 1 a_sign sign_field fs)
                                    (λ xs o. let m = o.most in
                                    (λ e. absurd (omega arith), λ e. absurd (omega arith), λ _. (ap length o.is, omega (arith, ap (λ (l : List ℕ). cell l 1) o.is))))),
                                tt,
                              ),
                            ),
                          ),
                        ),
                      ),
                    ),
                  ),
                ),
              ),
            ),
          ),
        ),
      ),
    ),
  ),
)

-- the row of a line that the rules' reader takes is as its section asks
pub line_entered : (l : List ℕ) → Gives Entered (row_of kinds l)
unfolding row_of
line_entered l = word_entered kinds (pieces tab l) kinds_form
