-- The lines of the roots are written one after the other, by what the old table's slice tells. Assumes nothing.
use Rattle.std.specs.Borrow.{Bor}
use Rattle.std.specs.Prelude.{Option, Some, None}
use mathlib.Core.Path.{◌≡◌, refl, sym, ap, ap₂, subst, ◌∙◌}
use mathlib.Core.Bool.{Bool, true, false, not}
use Prim.Native.Nat.{ℕ, zero, suc, ◌+◌, ◌-◌, ◌*◌, ◌≤◌, ◌<◌}
use native.Mathlib.Omega.{arith}
use mathlib.Core.Logic.{◌⊎◌, ⊎_elim}
use mathlib.Core.List.{List, [], ◌∷◌, ◌++◌, append_assoc, append-nil}
use lib.ListN.{length, take, drop, length-append}
use lib.Dec.{eqb}
use borrow.Author.Tests.{eq-eqb, ne_eqb}
use Rattle.cells.specs.Part.{if, cell, run}
use Rattle.cells.proofs.Parts.{run_length, run_snoc}
use Rattle.layout.specs.Layout.{redone_at}
use Rattle.rules.specs.Plain.{ascii, joined}
use Rattle.rules.specs.Ceilings.{most_roots}
use Rattle.rules.specs.Text.{tab, parted, line_text}
use Rattle.rules.specs.Table as rules
use Rattle.rules.specs.Listing.{root_text, root_text_of, answers_text}
use Rattle.rules.specs.declared.Form.{Form}
use Rattle.rules.specs.Calls.{redone_word}
use Rattle.laws.specs.Sound.{most_root_text}
use Rattle.laws.proofs.Bounding.{answers_bounded}
use Rattle.text.specs.Reads.{span, span_at}
use Rattle.text.proofs.Spans.{span_none, span_length}
use Rattle.cells.proofs.Parts.{part_taken}
use Rattle.prepare.specs.declared.Prepared.{Prepared}
use Rattle.prepare.specs.Prepares.{root_at}
use Rattle.listing.specs.Writes.{Wrote}
use Rattle.listing.proofs.Texts.{wrote_none, wrote_more, wrote_as}
use Rattle.answers.specs.Runs.{Running, Bounded, WritesRoot}
use Rattle.answers.specs.Mixes.{slice_of, is_given, kept_at, IsKept, Keeps, tab_before, word_at, WritesOld, Lying, lines_at, WritesNext, all_lines, WritesRoots}
use Rattle.answers.proofs.Running.{running_on, few_roots}

pub kept_is : {old : List ℕ} {i p v : ℕ} → p ≡ redone_at + i → v ≡ cell old p → IsKept old true i (eqb v 0)
kept_is {old} a b = record { is = ap (λ (k : ℕ). eqb k 0) (b ∙ ap (cell old) a) }

-- each way out of `keeping`
pub keeps_ungiven : {old r : Option (Bor (List ℕ))} {i : ℕ} → old ≡ None → r ≡ None → Keeps old i r
keeps_ungiven {old} {r} {i} e f = record {
  some = λ g. absurd (cc);
  none = λ g. ap (λ (x : Option (Bor (List ℕ))). kept_at (slice_of x) (is_given x) i) e;
}

module _ {old : Option (Bor (List ℕ))} {s : Bor (List ℕ)} {i : ℕ} {b : Bool} (e : old ≡ Some s) (k : IsKept s.now true i b) where
  pub keeps_slice : b ≡ true → Keeps old i (Some s)
  keeps_slice f = subst (λ (x : Option (Bor (List ℕ))). Keeps x i (Some s)) (sym e)
      (record { some = λ {s = t} g. (sym k.is ∙ f, let z : s ≡ t = cc in ap (λ (x : Bor (List ℕ)). x.now) (sym z)); none = λ g. absurd (cc) })

  pub keeps_none : b ≡ false → Keeps old i None
  keeps_none f = subst (λ (x : Option (Bor (List ℕ))). Keeps x i None) (sym e) (record { some = λ g. absurd (cc); none = λ g. sym k.is ∙ f })

-- each way out of `tab_before`
pub tab_none : {i p : ℕ} {o : List ℕ} → i ≡ 0 → Wrote (tab_before i) p o o p
tab_none {i} {p} {o} e = wrote_as (wrote_none p o) (sym (ap (λ (b : Bool). if b (λ _. []) (λ _. tab ∷ [])) (eq-eqb i 0 e)))

pub tab_one : {i p r : ℕ} {o o' : List ℕ} → (i ≡ 0 → ⊥) → Wrote (9 ∷ []) p o o' r → Wrote (tab_before i) p o o' r
tab_one {i} e w = wrote_as w (sym (ap (λ (b : Bool). if b (λ _. []) (λ _. tab ∷ [])) (ne_eqb i 0 e)))

-- each way out of `write_word`
module _ {old : List ℕ} {i p q r : ℕ} {o o₁ o₂ : List ℕ} {b : Bool} (t : Wrote (tab_before i) p o o₁ q) (k : IsKept old true i b) where
  pub word_kept : b ≡ true → Wrote (ascii "kept") q o₁ o₂ r → Wrote (tab_before i ++ word_at old i) p o o₂ r
  word_kept e w = wrote_more t (wrote_as w (ap (λ (x : Bool). redone_word (not x)) (sym e ∙ k.is)))

  pub word_redone : b ≡ false → Wrote (ascii "redone") q o₁ o₂ r → Wrote (tab_before i ++ word_at old i) p o o₂ r
  word_redone e w = wrote_more t (wrote_as w (ap (λ (x : Bool). redone_word (not x)) (sym e ∙ k.is)))

-- the first line, word by word
tab_more : (n : ℕ) → tab_before (suc n) ≡ tab ∷ []
tab_more n = ap (λ (b : Bool). if b (λ _. []) (λ _. tab ∷ [])) (ne_eqb (suc n) 0 (omega arith))

parted_last : (xs : List (List ℕ)) (x : List ℕ) → parted tab (xs ++ (x ∷ [])) ≡ parted tab xs ++ (tab_before (length xs) ++ x)
parted_last [] x = refl
parted_last (y ∷ []) x = ap (λ (l : List ℕ). y ++ (l ++ x)) (sym (tab_more 0))
parted_last (y ∷ z ∷ xs) x =
    ap (λ (l : List ℕ). y ++ (tab ∷ l)) (parted_last (z ∷ xs) x ∙ ap (λ (l : List ℕ). parted tab (z ∷ xs) ++ (l ++ x)) (tab_more (length xs)))
    ∙ sym (append_assoc y (tab ∷ parted tab (z ∷ xs)) (tab ∷ x))
    ∙ ap (λ (l : List ℕ). y ++ (tab ∷ parted tab (z ∷ xs)) ++ (l ++ x)) (sym (tab_more (suc (length xs))))

words_next : (old : List ℕ) (i : ℕ) → parted tab (run (word_at old) 0 i) ++ (tab_before i ++ word_at old i) ≡ parted tab (run (word_at old) 0 (i + 1))
words_next old i =
    let here : i ≡ 0 + i = omega arith in
    let next : suc i ≡ i + 1 = omega arith in
    ap₂ {C = List ℕ} (λ (k j : ℕ). parted tab (run (word_at old) 0 i) ++ (tab_before k ++ word_at old j)) (sym (run_length (word_at old) 0 i)) here
    ∙ sym (parted_last (run (word_at old) 0 i) (word_at old (0 + i)))
    ∙ ap (parted tab) (sym (run_snoc (word_at old) 0 i))
    ∙ ap (λ (k : ℕ). parted tab (run (word_at old) 0 k)) next

-- the first i words are written
pub record Worded (old : List ℕ) (i p : ℕ) (o o' : List ℕ) (r : ℕ) : Type 0 where
  pub is : Wrote (parted tab (run (word_at old) 0 i)) p o o' r

pub worded_start : {old o : List ℕ} {p : ℕ} → Worded old 0 p o o p
worded_start {o = o} {p} = record { is = wrote_none p o }

module _ {old o o₁ o₂ : List ℕ} {i p q r : ℕ} (h : Worded old i p o o₁ q) where
  pub worded_next : Wrote (tab_before i ++ word_at old i) q o₁ o₂ r → Worded old (i + 1) p o o₂ r
  worded_next w = record { is = wrote_as (wrote_more h.is w) (words_next old i) }

  pub worded_done : {n : ℕ} → n ≤ i → i ≤ n → Wrote (10 ∷ []) q o₁ o₂ r → Wrote (line_text (run (word_at old) 0 n)) p o o₂ r
  worded_done {n} low high w =
      let z : i ≡ n = omega arith in wrote_as (wrote_more h.is w) (ap (λ (k : ℕ). line_text (run (word_at old) 0 k)) z)

-- at most seven bytes for each root, and the line feed
word_short : (b : Bool) → length (redone_word b) ≤ 6
word_short true = omega arith
word_short false = omega arith

tab_short : (b : Bool) → length (if b (λ _. []) (λ _. tab ∷ [])) ≤ 1
tab_short true = omega arith
tab_short false = omega arith

words_short : (old : List ℕ) (n : ℕ) → length (parted tab (run (word_at old) 0 n)) ≤ 7 * n
words_short old zero = omega arith
words_short old (suc n) =
    let r = words_short old n in
    let next : n + 1 ≡ suc n = omega arith in
    let e = ap length (words_next old n ∙ ap (λ (k : ℕ). parted tab (run (word_at old) 0 k)) next) in
    omega (
      arith,
      e,
      length-append (parted tab (run (word_at old) 0 n)) (tab_before n ++ word_at old n),
      length-append (tab_before n) (word_at old n),
      tab_short (eqb n 0),
      word_short (not (kept_at old true n)),
    )

pub line_short : (old : List ℕ) (n : ℕ) → length (line_text (run (word_at old) 0 n)) ≤ 7 * n + 1
line_short old n = omega (arith, words_short old n, length-append (parted tab (run (word_at old) 0 n)) (10 ∷ []))

-- each way out of `write_old`
module _ {listing : List ℕ} {p from to : ℕ} {o : List ℕ} where
  pub old_none : (to < from) ⊎ (length listing < to) → WritesOld listing from to p o o p
  old_none h = record {
    is = λ l. ⊎_elim
        (λ (e : to < from). wrote_as (wrote_none p o) (sym (span_none listing from to (omega arith))))
        (λ (e : length listing < to). absurd (omega arith))
        h;
  }

  pub old_some : {o' lines : List ℕ} {r : ℕ} → from ≤ to → lines ≡ take (to - from) (drop from listing) → Wrote lines p o o' r
      → WritesOld listing from to p o o' r
  old_some h e w = record { is = λ l. wrote_as w (e ∙ part_taken listing from (to - from) (omega arith)) }

-- each way out of `write_root`: by the root's flag, and by the cells of its row
lines_turn : (listing old : List ℕ) (mixed : Bool) (form : Form) (T : rules.Table) (table : List ℕ) (first i : ℕ) {p r : ℕ} {o o' : List ℕ} (x : Bool) → kept_at old mixed i ≡ x
    → Bounded most_root_text (if x (λ _. span_at listing old i) (λ _. root_text_of form T (root_at table (first + i)))) p o o' r
    → Bounded most_root_text (lines_at listing old mixed form T table first i) p o o' r
lines_turn listing old mixed form T table first i {p} {r} {o} {o'} x e =
    subst (λ (y : Bool). Bounded most_root_text (if y (λ _. span_at listing old i) (λ _. root_text_of form T (root_at table (first + i)))) p o o' r) (sym e)

module _ {listing table arena work : List ℕ} {given kept : Option (Bor (List ℕ))} {g : Prepared} {form : Form} {p i r : ℕ} {o : List ℕ} (k : Keeps given i kept) where
  pub lines_kept : {s : Bor (List ℕ)} {o' : List ℕ} {from q to : ℕ} → kept ≡ Some s → from ≡ cell s.now i → q ≡ 1 + i → to ≡ cell s.now q
      → WritesOld listing from to p o o' r → WritesNext listing (slice_of given) (is_given given) table g arena work form p i o table o' r
  lines_kept {o' = o'} {from} {q} {to} e b c d w =
      let known = k.some e in
      let same = known.1 in
      let next : 1 + i ≡ i + 1 = omega arith in
      let a : from ≡ cell (slice_of given) i = b ∙ ap (λ (l : List ℕ). cell l i) same in
      let z : to ≡ cell (slice_of given) (i + 1) = d ∙ ap (λ (l : List ℕ). cell l q) same ∙ ap (cell (slice_of given)) (c ∙ next) in
      record {
        is = λ {T} u l lt.
            let h = l.is i lt known.0 in
            lines_turn listing (slice_of given) (is_given given) form T table g.first i true known.0
            (record {
              wrote = wrote_as (w.is (omega (arith, h.0))) (ap₂ {C = List ℕ} (span listing) a z);
              short = omega (arith, span_length listing (cell (slice_of given) i) (cell (slice_of given) (i + 1)), h.0, h.1);
            });
        kept = λ u. refl;
      }

  pub lines_redone : {table' o' : List ℕ} {a c d row id sign : ℕ} → kept ≡ None → a ≡ g.first + i → row ≡ cell table a → c ≡ row + 1 → id ≡ cell table c
      → d ≡ row + 2 → sign ≡ cell table d → WritesRoot table g arena work form p id sign o table' o' r
      → WritesNext listing (slice_of given) (is_given given) table g arena work form p i o table' o' r
  lines_redone {table'} {o'} e ea row_is ec id_is ed sign-is w =
      let f = row_is ∙ ap (cell table) ea in
      let id-at = id_is ∙ ap (cell table) (ec ∙ ap (λ (n : ℕ). n + 1) f) in
      let sign_at = sign-is ∙ ap (cell table) (ed ∙ ap (λ (n : ℕ). n + 2) f) in
      record {
        is = λ {T} u l lt.
            lines_turn listing (slice_of given) (is_given given) form T table g.first i false (k.none e)
            (subst (λ (t : List ℕ). Bounded most_root_text t p o o' r) (ap₂ {C = List ℕ} (root_text form T) id-at sign_at)
            (w.is u (omega (arith, u.prepared.known i lt))));
        kept = w.kept;
      }

joined_last : (xs : List (List ℕ)) (x : List ℕ) → joined (xs ++ (x ∷ [])) ≡ joined xs ++ x
joined_last [] x = append-nil x
joined_last (y ∷ xs) x = ap (λ (l : List ℕ). y ++ l) (joined_last xs x) ∙ sym (append_assoc y (joined xs) x)

-- the texts of the first i roots are written from p₀ on, and the table is as it was
pub record Listed (texts : ℕ → List ℕ) (table₀ table o₀ o : List ℕ) (p₀ p i : ℕ) : Type 0 where
  pub wrote : Wrote (joined (run texts 0 i)) p₀ o₀ o p
  pub short : length (joined (run texts 0 i)) ≤ i * most_root_text
  pub kept : table ≡ table₀

listed_start : {texts : ℕ → List ℕ} {table o : List ℕ} {p : ℕ} → Listed texts table table o o p p 0
listed_start {o = o} {p = p} = record { wrote = wrote_none p o; short = omega arith; kept = refl }

text_next : (texts : ℕ → List ℕ) (i : ℕ) → joined (run texts 0 i) ++ texts i ≡ joined (run texts 0 (i + 1))
text_next texts i =
    let here : i ≡ 0 + i = omega arith in
    let next : suc i ≡ i + 1 = omega arith in
    ap (λ (k : ℕ). joined (run texts 0 i) ++ texts k) here
    ∙ sym (joined_last (run texts 0 i) (texts (0 + i)))
    ∙ ap (λ (l : List (List ℕ)). joined l) (sym (run_snoc texts 0 i))
    ∙ ap (λ (k : ℕ). joined (run texts 0 k)) next

listed_next : {texts : ℕ → List ℕ} {table₀ table table' o₀ o o' : List ℕ} {p₀ p i r : ℕ} → Listed texts table₀ table o₀ o p₀ p i → table' ≡ table
    → Bounded most_root_text (texts i) p o o' r → Listed texts table₀ table' o₀ o' p₀ r (i + 1)
listed_next {texts} {i = i} a e b =
    let next = text_next texts i in
    record {
      wrote = wrote_as (wrote_more a.wrote b.wrote) next;
      short = omega (arith, ap length next, length-append (joined (run texts 0 i)) (texts i), a.short, b.short);
      kept = e ∙ a.kept;
    }

-- of every table that the slice may hold
pub record Listing (listing old : List ℕ) (mixed : Bool) (form : Form) (g : Prepared) (table₀ arena₀ work₀ table arena work : List ℕ) (i p₀ : ℕ) (o₀ o : List ℕ) (p : ℕ) : Type 0 where
  pub is : {T : rules.Table} → Running T g table₀ arena₀ work₀ → Lying listing old mixed g.roots
      → Listed (lines_at listing old mixed form T table₀ g.first) table₀ table o₀ o p₀ p i
  pub arena_long : length arena ≡ length arena₀
  pub work_long : length work ≡ length work₀

pub listing_start : {listing old : List ℕ} {mixed : Bool} {form : Form} {g : Prepared} {table arena work o : List ℕ} {p : ℕ}
    → Listing listing old mixed form g table arena work table arena work 0 p o o p
listing_start = record { is = λ u l. listed_start; arena_long = refl; work_long = refl }

module _ {listing old : List ℕ} {mixed : Bool} {form : Form} {g : Prepared} {table₀ arena₀ work₀ o₀ : List ℕ} {p₀ : ℕ} where
  pub listing_next : {table arena work o table' arena' work' o' : List ℕ} {p i r : ℕ}
      → Listing listing old mixed form g table₀ arena₀ work₀ table arena work i p₀ o₀ o p → i < g.roots
      → length arena' ≡ length arena → length work' ≡ length work → WritesNext listing old mixed table g arena work form p i o table' o' r
      → Listing listing old mixed form g table₀ arena₀ work₀ table' arena' work' (i + 1) p₀ o₀ o' r
  listing_next {table} {arena} {work} {o} {table'} {arena'} {work'} {o'} {p} {i} {r} m lt ea ew w = record {
    is = λ {T} u l.
        let a = m.is u l in
        let v : Running T g table arena work = running_on u a.kept m.arena_long m.work_long in
        listed_next a (w.kept v)
        (subst (λ (t : List ℕ). Bounded most_root_text (lines_at listing old mixed form T t g.first i) p o o' r) a.kept (w.is v l lt));
    arena_long = ea ∙ m.arena_long;
    work_long = ew ∙ m.work_long;
  }

  -- after the lines `answers` and `numbered`
  pub listing_done : {out table arena work o : List ℕ} {at p i : ℕ} → Wrote (answers_text form g.roots) at out o₀ p₀
      → Listing listing old mixed form g table₀ arena₀ work₀ table arena work i p₀ o₀ o p → g.roots ≤ i → i ≤ g.roots → WritesRoots listing old mixed table₀ g arena₀ work₀ form at out table o p
  listing_done {i = i} head m low high = record {
    is = λ {T} u l.
        let a = m.is u l in
        let z : i ≡ g.roots = omega arith in
        let few : g.roots ≤ most_roots = few_roots u in
        let lines : ℕ → List ℕ = lines_at listing old mixed form T table₀ g.first in
        let whole : answers_text form g.roots ++ joined (run lines 0 i) ≡ all_lines listing old mixed form T table₀ g =
        ap (λ (k : ℕ). answers_text form g.roots ++ joined (run lines 0 k)) z in
        record {
          wrote = wrote_as (wrote_more head a.wrote) whole;
          short = omega (arith, ap length whole, length-append (answers_text form g.roots) (joined (run lines 0 i)), answers_bounded form {n = g.roots} (omega arith), a.short);
        };
    kept = λ u l. (m.is u l).kept;
  }
