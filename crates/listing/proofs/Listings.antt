-- Lists in a line, written element by element. Assumes nothing.
use mathlib.Core.Path.{◌≡◌, refl, sym, ap, ap₂, ◌∙◌}
use Prim.Native.Nat.{ℕ, zero, suc, ◌+◌, ◌≤◌, ◌<◌}
use native.Mathlib.Omega.{arith}
use native.Mathlib.Numerals.{add-one}
use mathlib.Core.Bool.{Bool}
use mathlib.Core.List.{List, [], ◌∷◌, ◌++◌, map, append_assoc}
use lib.ListN.{length, get_or}
use borrow.Author.Tests.{eq-eqb, ne_eqb}
use Rattle.cells.specs.Part.{if, run, cell}
use Rattle.cells.proofs.Parts.{run_length, run_snoc}
use Rattle.rules.specs.Text.{tab, comma, colon, dash, parted, decimal, list_text, keyed_text}
use Rattle.rules.specs.Table.{Field, Attr, field_keys, field_types}
use Rattle.rules.specs.Types.{field_words}
use Rattle.rules.specs.Listing.{renumber_field}
use Rattle.lang_ty.specs.Sets.{SetAt, Fields, Key, FieldType}
use Rattle.listing.specs.Writes.{Wrote}
use Rattle.listing.specs.Walks.{number_of}
use Rattle.listing.specs.Printed.{parted_by, WroteNumbers, WroteList, WroteFields}
use Rattle.listing.proofs.Texts.{wrote_none, wrote_more, wrote_as}

-- what stands before an element
pub parted_first : {i p r : ℕ} {o o' : List ℕ} → i ≡ 0 → Wrote (9 ∷ []) p o o' r → Wrote (parted_by i ∷ []) p o o' r
parted_first {i} e a = wrote_as a (simp (eq-eqb i 0 e))

pub parted_later : {i p r : ℕ} {o o' : List ℕ} → (i ≡ 0 → ⊥) → Wrote (44 ∷ []) p o o' r → Wrote (parted_by i ∷ []) p o o' r
parted_later {i} e a = wrote_as a (simp (ne_eqb i 0 e))

-- a list's elements so far, a tab before them
abbrev begun : List (List ℕ) → List ℕ
begun [] = []
begun (p ∷ ps) = tab ∷ parted comma (p ∷ ps)

parted_snoc : (s : ℕ) (p : List ℕ) (ps : List (List ℕ)) (q : List ℕ) → parted s (p ∷ (ps ++ (q ∷ []))) ≡ parted s (p ∷ ps) ++ (s ∷ q)
parted_snoc s p [] q = refl
parted_snoc s p (r ∷ rs) q = ap (λ (l : List ℕ). p ++ (s ∷ l)) (parted_snoc s r rs q) ∙ sym (append_assoc p (s ∷ parted s (r ∷ rs)) (s ∷ q))

begun_more : (ps : List (List ℕ)) (q : List ℕ) → begun (ps ++ (q ∷ [])) ≡ begun ps ++ (parted_by (length ps) ∷ q)
begun_more [] q = refl
begun_more (p ∷ ps) q =
    ap (λ (l : List ℕ). tab ∷ l) (parted_snoc comma p ps q)
    ∙ ap (λ (b : Bool). begun (p ∷ ps) ++ (if b (λ _. tab) (λ _. comma) ∷ q)) (sym (ne_eqb (suc (length ps)) 0 (λ e. omega arith)))

begun_done : (ps : List (List ℕ)) → 0 < length ps → begun ps ≡ tab ∷ list_text ps
begun_done [] h = absurd (omega arith)
begun_done (p ∷ ps) h = refl

-- one element more: what parts it, and its text
module _ (f : ℕ → List ℕ) (a i : ℕ) {p q r : ℕ} {o o₁ o₂ : List ℕ} (so : Wrote (begun (run f a i)) p o o₁ q) where
  element : Wrote (parted_by i ∷ f (a + i)) q o₁ o₂ r → Wrote (begun (run f a (i + 1))) p o o₂ r
  element w =
      wrote_as (wrote_more so w)
      (ap (λ (k : ℕ). begun (run f a i) ++ (parted_by k ∷ f (a + i))) (sym (run_length f a i))
      ∙ sym (begun_more (run f a i) (f (a + i)))
      ∙ ap begun (sym (run_snoc f a i) ∙ ap (run f a) (sym (add-one i))))

map_run : {A : Type 0} (g : ℕ → A) (f : ℕ → ℕ) (a n : ℕ) → map g (run f a n) ≡ run (λ (j : ℕ). g (f j)) a n
map_run g f a zero = refl
map_run g f a (suc n) = ap (λ (l : List _). g (f a) ∷ l) (map_run g f (suc a) n)

-- counted from a on
run_from : {A : Type 0} (f : ℕ → A) (a b c n : ℕ) → a + b ≡ c → run (λ (j : ℕ). f (a + j)) b n ≡ run f c n
run_from f a b c zero e = refl
run_from {A} f a b c (suc n) e = ap₂ {C = List A} ◌∷◌ (ap f e) (run_from f a (suc b) (suc c) n (omega arith))

-- i numbers of n are written
pub record NumbersWritten (Fits : ℕ → ℕ → Type 0) (n i p : ℕ) (o o' : List ℕ) (r : ℕ) : Type 0 where
  pub so : (f : ℕ → ℕ) → ((j v : ℕ) → j < n → Fits j v → v ≡ f j) → Wrote (begun (run (λ (j : ℕ). decimal (f j)) 0 i)) p o o' r

pub numbers_start : {Fits : ℕ → ℕ → Type 0} {n p : ℕ} {o : List ℕ} → NumbersWritten Fits n 0 p o o p
numbers_start {p = p} {o = o} = record { so = λ f h. wrote_none p o }

module _ {Fits : ℕ → ℕ → Type 0} {n p q i : ℕ} {o o₁ : List ℕ} (l : NumbersWritten Fits n i p o o₁ q) where
  pub numbers_more : {v r s : ℕ} {o₂ o₃ : List ℕ} → i < n → Wrote (parted_by i ∷ []) q o₁ o₂ s → Fits i v → Wrote (decimal v) s o₂ o₃ r
      → NumbersWritten Fits n (i + 1) p o o₃ r
  numbers_more {v} lt b e c = record {
    so = λ f h.
        let here : i ≡ 0 + i = omega arith in
        element (λ (j : ℕ). decimal (f j)) 0 i (l.so f h)
        (wrote_as (wrote_more b c) (ap (λ (k : ℕ). parted_by i ∷ decimal k) (h i v lt e) ∙ ap (λ (j : ℕ). parted_by i ∷ decimal (f j)) here));
  }

  pub numbers_done : n ≤ i → i ≤ n → (n ≡ 0 → ⊥) → WroteNumbers Fits n p o o₁ q
  numbers_done low high ne = record {
    is = λ f h.
        let z : i ≡ n = omega arith in
        let g : ℕ → List ℕ = λ (j : ℕ). decimal (f j) in
        wrote_as (l.so f h) (ap (λ (k : ℕ). begun (run g 0 k)) z ∙ begun_done (run g 0 n) (let y = run_length g 0 n in omega arith));
  }

pub numbers_none : {Fits : ℕ → ℕ → Type 0} {n p r : ℕ} {o o' : List ℕ} → n ≡ 0 → Wrote (tab ∷ dash) p o o' r → WroteNumbers Fits n p o o' r
numbers_none e c = record { is = λ f h. wrote_as c (ap (λ (k : ℕ). tab ∷ list_text (run (λ (j : ℕ). decimal (f j)) 0 k)) (sym e)) }

-- the numbers are what k makes of the cells from a on
pub numbers_listed : (k : ℕ → ℕ) (w : List ℕ) (a : ℕ) {Fits : ℕ → ℕ → Type 0} {n p r : ℕ} {o o' : List ℕ}
    → ((i v : ℕ) → i < n → Fits i v → v ≡ k (cell w (a + i))) → WroteNumbers Fits n p o o' r → WroteList (λ (y : ℕ). decimal (k y)) w a n p o o' r
numbers_listed k w a {n = n} h c =
    let g : ℕ → List ℕ = λ (y : ℕ). decimal (k y) in
    let here : a + 0 ≡ a = omega arith in
    record {
      is = wrote_as (c.is (λ (i : ℕ). k (cell w (a + i))) h)
          (ap (λ (ps : List (List ℕ)). tab ∷ list_text ps) (run_from (λ (j : ℕ). g (cell w j)) a 0 a n here ∙ sym (map_run g (cell w) a n)));
    }

-- the text of field j
abbrev field_piece : List ℕ → List Field → ℕ → List ℕ
field_piece work fs j = decimal (get_or (field_keys fs) j 0) ++ (colon ∷ decimal (number_of work (get_or (field_types fs) j 0)))

run_later : {A : Type 0} (f : ℕ → A) (a n : ℕ) → run f (suc a) n ≡ run (λ (j : ℕ). f (suc j)) a n
run_later f a zero = refl
run_later f a (suc n) = ap (λ (l : List _). f (suc a) ∷ l) (run_later f (suc a) n)

pieces_all : (work : List ℕ) (fs : List Field) → run (field_piece work fs) 0 (length fs) ≡ keyed_text (field_words (map (renumber_field (number_of work)) fs))
pieces_all work [] = refl
pieces_all work (f ∷ fs) = ap (λ (l : List (List ℕ)). field_piece work (f ∷ fs) 0 ∷ l) (run_later (field_piece work (f ∷ fs)) 0 (length fs) ∙ pieces_all work fs)

-- i fields are written
pub record FieldsWritten (w work : List ℕ) (a i p : ℕ) (o o' : List ℕ) (r : ℕ) : Type 0 where
  pub so : {t : Attr} → SetAt w a t → Wrote (begun (run (field_piece work t.fields) 0 i)) p o o' r

module _ {w work : List ℕ} {a n p q i : ℕ} {o o₁ : List ℕ} (l : FieldsWritten w work a i p o o₁ q) (c : Fields w a n) where
  pub fields_more : {k v m s₁ s₂ s₃ r : ℕ} {o₂ o₃ o₄ o₅ : List ℕ} → i < n → Wrote (parted_by i ∷ []) q o₁ o₂ s₁ → Key w a i k → Wrote (decimal k) s₁ o₂ o₃ s₂
      → Wrote (58 ∷ []) s₂ o₃ o₄ s₃ → FieldType w a i v → m ≡ number_of work v → Wrote (decimal m) s₃ o₄ o₅ r
      → FieldsWritten w work a (i + 1) p o o₅ r
  fields_more {k} {v} {m} lt b key d e ty f g = record {
    so = λ {t} h.
        let n-is : n ≡ length t.fields = c.is h in
        let here : i ≡ 0 + i = omega arith in
        element (field_piece work t.fields) 0 i (l.so h)
        (wrote_as (wrote_more b (wrote_more d (wrote_more e g)))
        (ap₂ {C = List ℕ} (λ (x y : ℕ). parted_by i ∷ (decimal x ++ (colon ∷ decimal y)))
        (key.is h (omega arith))
        (f ∙ ap (number_of work) (ty.is h (omega arith)))
        ∙ ap (λ (j : ℕ). parted_by i ∷ field_piece work t.fields j) here));
  }

  pub fields_done : n ≤ i → i ≤ n → (n ≡ 0 → ⊥) → WroteFields w work a p o o₁ q
  fields_done le few ne = record {
    is = λ {t} h.
        let n-is : n ≡ length t.fields = c.is h in
        let z : i ≡ length t.fields = omega arith in
        let f = field_piece work t.fields in
        wrote_as (l.so h)
        (ap (λ (k : ℕ). begun (run f 0 k)) z
        ∙ begun_done (run f 0 (length t.fields)) (let y = run_length f 0 (length t.fields) in omega arith)
        ∙ ap (λ (ps : List (List ℕ)). tab ∷ list_text ps) (pieces_all work t.fields));
  }

pub fields_none : {w work : List ℕ} {a n p r : ℕ} {o o' : List ℕ} → Fields w a n → n ≡ 0 → Wrote (tab ∷ dash) p o o' r → WroteFields w work a p o o' r
fields_none {w} {work} c e g = record { is = λ {t} h. wrote_as g (none t.fields (sym (c.is h) ∙ e)) }
  where
    none : (fs : List Field) → length fs ≡ 0 → tab ∷ dash ≡ tab ∷ list_text (keyed_text (field_words (map (renumber_field (number_of work)) fs)))
    none [] e = refl
    none (f ∷ fs) e = absurd (omega arith)
