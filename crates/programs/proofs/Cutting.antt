-- The loop over an input finds the line `next` where the rules cut. Assumes nothing.
use mathlib.Core.Path.{◌≡◌, refl, sym, ap, ap₂, subst, ◌∙◌}
use mathlib.Core.Bool.{Bool, true, false}
use Prim.Native.Nat.{ℕ, zero, suc, ◌+◌, ◌-◌, ◌≤◌, ◌<◌}
use native.Mathlib.Omega.{arith}
use mathlib.Core.List.{List, [], ◌∷◌, ◌++◌, append-nil, append_assoc}
use lib.ListN.{length, take, drop, length-take, length-drop}
use lib.Seq.{slice, slice_empty, take_all, take-nil, take-suc, drop-cons, drop-append-le, drop-drop, drop-length, length-take-le, append_snoc}
use lib.Dec.{eqb}
use borrow.Author.Tests.{ne_eqb, eqb-true, eqb-false, le-leb, lt-leb, lt-ltb, le-ltb}
use Rattle.cells.specs.Part.{if, cell, eq_list}
use Rattle.cells.proofs.Parts.{eq_list_same, eq_list_other}
use Rattle.cells.proofs.Choices.{by_test}
use Rattle.rules.specs.Plain.{ascii, both}
use Rattle.rules.specs.Text.{line_feed, cut, pieces, parted}
use Rattle.rules.specs.Calls.{Split, cut_next, split_next}
use Rattle.laws.proofs.Storing.{eq_list_true}
use Rattle.laws.proofs.Admitting.{both_parts}
use Rattle.laws.proofs.Rooting.{all_join}
use Rattle.laws.proofs.Printed.{Free}
use Rattle.laws.proofs.OldListing.{parted_pieces}
use Rattle.programs.specs.Parts.{next_line, line_at, IsNext, behind_of, UntilNext}

-- parts of a list
pub drop_take : (j k : ℕ) (l : List ℕ) → drop j (take (j + k) l) ≡ take k (drop j l)
drop_take zero k l = let z : zero + k ≡ k = omega arith in ap (λ (n : ℕ). take n l) z
drop_take (suc j) k [] = ap (drop (suc j)) (take-nil (suc j + k)) ∙ sym (take-nil k)
drop_take (suc j) k (x ∷ l) =
    let z : suc j + k ≡ suc (j + k) = omega arith in ap (λ (n : ℕ). drop (suc j) (take n (x ∷ l))) z ∙ drop_take j k l

pub part_slice : (a e : ℕ) (l : List ℕ) → a ≤ e → slice a e l ≡ take (e - a) (drop a l)
part_slice a e l h = let z : e ≡ a + (e - a) = omega arith in ap (λ (n : ℕ). slice a n l) z ∙ drop_take a (e - a) l

pub rest_whole : (s : List ℕ) (i : ℕ) → take (length s - i) (drop i s) ≡ drop i s
rest_whole s i = take_all (length s - i) (drop i s) (omega (arith, length-drop i s))

-- the cut, byte by byte: whether a line begins here, what stands before, and what is left
abbrev pub scan : Bool → List ℕ → List ℕ → Split
scan start got [] = record { front = got; back = [] }
scan start got (x ∷ xs) =
    if (both start (λ _. eq_list (take 5 (x ∷ xs)) next_line)) (λ _. record { front = got; back = drop 5 (x ∷ xs) })
    (λ _. scan (eqb x line_feed) (got ++ (x ∷ [])) xs)

-- at the beginning of a line
scan_start : (got rest : List ℕ)
    → if (eq_list (take 5 rest) next_line) (λ _. record { front = got; back = drop 5 rest }) (λ _. scan false got rest) ≡ scan true got rest
scan_start got [] = refl
scan_start got (x ∷ xs) = refl

-- a line is a word exactly if the text begins with the word and a line feed
whole_line : (l w rest : List ℕ) → Free line_feed l → Free line_feed w
    → eq_list (take (suc (length w)) (l ++ (line_feed ∷ rest))) (w ++ (line_feed ∷ [])) ≡ eq_list l w
whole_line [] [] rest f g = refl
whole_line [] (c ∷ w) rest f g = rw (ne_eqb line_feed c (λ e. g.0 (sym e)))
whole_line (a ∷ l) [] rest f g = rw (ne_eqb a line_feed f.0)
whole_line (a ∷ l) (c ∷ w) rest f g =
    by_test (λ (b : Bool). b ≡ eq_list (a ∷ l) (c ∷ w)) (eqb a c) _ _
    (λ e. whole_line l w rest f.1 g.1 ∙ sym (eq_list_same a c l w (eqb-true a c e)))
    (λ e. sym (eq_list_other a c l w (eqb-false a c e)))

-- and a text without a line feed does not begin so
no_line : (n : ℕ) (l w : List ℕ) → Free line_feed l → eq_list (take n l) (w ++ (line_feed ∷ [])) ≡ false
no_line zero l [] f = refl
no_line zero l (c ∷ w) f = refl
no_line (suc n) [] [] f = refl
no_line (suc n) [] (c ∷ w) f = refl
no_line (suc n) (a ∷ l) [] f = rw (ne_eqb a line_feed f.0)
no_line (suc n) (a ∷ l) (c ∷ w) f =
    by_test (λ (b : Bool). b ≡ false) (eqb a c) _ _ (λ e. no_line n l w f.1) (λ e. refl)

next_free : Free line_feed (ascii "next")
next_free = ((λ e. omega arith), ((λ e. omega arith), ((λ e. omega arith), ((λ e. omega arith), tt))))

-- a line with another after it
cut_more : (got l g rest : List ℕ)
    → cut_next got (l ∷ cut line_feed g rest)
    ≡ if (eq_list l (ascii "next")) (λ _. record { front = got; back = parted line_feed (cut line_feed g rest) })
    (λ _. cut_next (got ++ l ++ (line_feed ∷ [])) (cut line_feed g rest))
cut_more got l g [] = refl
cut_more got l g (b ∷ rest) =
    by_test (λ (ps : List (List ℕ)). cut_next got (l ∷ ps)
    ≡ if (eq_list l (ascii "next")) (λ _. record { front = got; back = parted line_feed ps }) (λ _. cut_next (got ++ l ++ (line_feed ∷ [])) ps))
    (eqb b line_feed) _ _ (λ e. refl) (λ e. cut_more got l (g ++ (b ∷ [])) rest)

-- l: the line so far
abbrev line_with : List ℕ → List ℕ → List ℕ → Split
line_with got l rest =
    if (eq_list (take 5 (l ++ rest)) next_line) (λ _. record { front = got; back = drop 5 (l ++ rest) }) (λ _. scan false (got ++ l) rest)

no_line_yet : (got rest : List ℕ) → line_with got [] rest ≡ scan true got rest
no_line_yet got rest =
    ap (λ (g : List ℕ). if (eq_list (take 5 rest) next_line) (λ _. record { front = got; back = drop 5 rest }) (λ _. scan false g rest)) (append-nil got)
    ∙ scan_start got rest

at_feed : (got l rest : List ℕ) (b : Bool) → Free line_feed l → eq_list l (ascii "next") ≡ b
    → cut_next (got ++ l ++ (line_feed ∷ [])) (cut line_feed [] rest) ≡ scan true (got ++ l ++ (line_feed ∷ [])) rest
    → if b (λ _. record { front = got; back = rest }) (λ _. cut_next (got ++ l ++ (line_feed ∷ [])) (cut line_feed [] rest)) ≡ line_with got l (line_feed ∷ rest)
at_feed got l rest true f e h =
    let z = eq_list_true l (ascii "next") e in
    subst (λ (m : List ℕ). record { front = got; back = rest } ≡ line_with got m (line_feed ∷ rest)) (sym z) refl
at_feed got l rest false f e h =
    rw (whole_line l (ascii "next") rest f next_free ∙ e) h

cut_scan : (got l rest : List ℕ) → Free line_feed l → cut_next got (cut line_feed l rest) ≡ line_with got l rest
unfolding pieces
cut_scan got l [] f = rw (ap (λ (m : List ℕ). eq_list (take 5 m) next_line) (append-nil l) ∙ no_line 5 l (ascii "next") f)
cut_scan got l (b ∷ rest) f =
    by_test (λ (ps : List (List ℕ)). cut_next got ps ≡ line_with got l (b ∷ rest)) (eqb b line_feed) _ _
    (λ e.
    subst (λ (x : ℕ). cut_next got (l ∷ cut line_feed [] rest) ≡ line_with got l (x ∷ rest)) (sym (eqb-true b line_feed e))
    (cut_more got l [] rest
    ∙ ap (λ (m : List ℕ). if (eq_list l (ascii "next")) (λ _. record { front = got; back = m })
    (λ _. cut_next (got ++ l ++ (line_feed ∷ [])) (cut line_feed [] rest))) (parted_pieces line_feed rest)
    ∙ at_feed got l rest (eq_list l (ascii "next")) f refl
    (cut_scan (got ++ l ++ (line_feed ∷ [])) [] rest tt ∙ no_line_yet (got ++ l ++ (line_feed ∷ [])) rest)))
    (λ e.
    cut_scan got (l ++ (b ∷ [])) rest (all_join _ l (b ∷ []) f (eqb-false b line_feed e, tt))
    ∙ ap₂ {C = Split} (λ (m g : List ℕ). if (eq_list (take 5 m) next_line) (λ _. record { front = got; back = drop 5 m }) (λ _. scan false g rest))
    (append_snoc l b rest) (sym (append_assoc got l (b ∷ [])))
    ∙ ap (λ (c : Bool). if (eq_list (take 5 (l ++ (b ∷ rest))) next_line) (λ _. record { front = got; back = drop 5 (l ++ (b ∷ rest)) })
    (λ _. scan c (got ++ l ++ (b ∷ [])) rest)) (sym e))

pub split_scan : (text : List ℕ) → split_next text ≡ scan true [] text
unfolding split_next pieces
split_scan text = cut_scan [] [] text tt ∙ no_line_yet [] text

-- one byte on
scan_skip : (start : Bool) (got : List ℕ) (x : ℕ) (xs l : List ℕ) → l ≡ x ∷ xs → both start (λ _. eq_list (take 5 l) next_line) ≡ false
    → scan start got l ≡ scan (eqb x line_feed) (got ++ (x ∷ [])) xs
scan_skip start got x xs l e h =
    subst (λ (m : List ℕ). both start (λ _. eq_list (take 5 m) next_line) ≡ false → scan start got m ≡ scan (eqb x line_feed) (got ++ (x ∷ [])) xs) (sym e)
    (λ k. rw k) h

scan_found : (start : Bool) (got l : List ℕ) → both start (λ _. eq_list (take 5 l) next_line) ≡ true
    → scan start got l ≡ record { front = got; back = drop 5 l }
scan_found start got [] h = let z = (both_parts start _ h).1 in absurd (let o : ◌≡◌ {A = ℕ} 0 1 = cc in omega arith)
scan_found start got (x ∷ xs) h = rw h

slice_more : (s : List ℕ) (from i : ℕ) → from ≤ i → i < length s → slice from (suc i) s ≡ slice from i s ++ (cell s i ∷ [])
slice_more s from i h k =
    ap (drop from) (take-suc s i 0 k) ∙ drop-append-le from (take i s) (cell s i ∷ []) (omega (arith, length-take-le i s (omega arith)))

-- no line up to i is `next`
pub record Seeking (s : List ℕ) (from i : ℕ) : Type 0 where
  pub low : from ≤ i
  pub high : i ≤ length s
  pub is : split_next (drop from s) ≡ scan (line_at s from i) (slice from i s) (drop i s)

pub seeking_start : {s : List ℕ} {from : ℕ} → from ≤ length s → Seeking s from from
seeking_start {s} {from} h = record {
  low = omega arith;
  high = h;
  is = split_scan (drop from s)
      ∙ ap₂ {C = Split} (λ (b : Bool) (g : List ℕ). scan b g (drop from s))
      (sym (ap (λ (b : Bool). if b (λ _. true) (λ _. eqb (cell s (from - 1)) line_feed)) (le-leb from from (omega arith)))) (sym (slice_empty from s));
}

module _ {s : List ℕ} {from i : ℕ} (k : Seeking s from i) where
  pub seeking_more : {b : Bool} → i < length s → IsNext s from i b → b ≡ false → Seeking s from (i + 1)
  seeking_more lt n e =
      let next : suc i ≡ i + 1 = omega arith in
      let low = k.low in
      let here : line_at s from (suc i) ≡ eqb (cell s i) line_feed =
      let one : suc i - 1 ≡ i = omega arith in
      rw (lt-leb (suc i) from (omega arith)) (ap (λ (j : ℕ). eqb (cell s j) line_feed) one) in
      subst (Seeking s from) next
      (record {
        low = omega arith;
        high = omega arith;
        is = k.is
            ∙ scan_skip (line_at s from i) (slice from i s) (cell s i) (drop (suc i) s) (drop i s) (drop-cons s i 0 lt) (sym n.is ∙ e)
            ∙ ap₂ {C = Split} (λ (c : Bool) (g : List ℕ). scan c g (drop (suc i) s)) (sym here) (sym (slice_more s from i low lt));
      })

  pub seeking_found : {b : Bool} → i < length s → IsNext s from i b → b ≡ true → UntilNext s from (record { from = from; to = i })
  seeking_found lt n e =
      let t = sym n.is ∙ e in
      let line = eq_list_true (take 5 (drop i s)) next_line (both_parts (line_at s from i) _ t).1 in
      let room : 5 ≤ length s - i = omega (arith, ap length line, length-take 5 (drop i s), length-drop i s) in
      record {
        start = refl;
        order = k.low;
        end = k.high;
        is = k.is ∙ scan_found (line_at s from i) (slice from i s) (drop i s) t
            ∙ ap (λ (l : List ℕ). record { front = slice from i s; back = l })
            (drop-drop 5 i s ∙ ap (λ (j : ℕ). drop j s) (sym (ap (λ (c : Bool). if c (λ _. length s) (λ _. i + 5)) (le-ltb (length s - i) 5 room))));
      }

  pub seeking_done : length s ≤ i → UntilNext s from (record { from = from; to = length s })
  seeking_done le =
      let z : i ≡ length s = omega (arith, k.high) in
      let end : behind_of (length s) (length s) ≡ length s =
      ap (λ (c : Bool). if c (λ _. length s) (λ _. length s + 5)) (lt-ltb (length s - length s) 5 (omega arith)) in
      record {
        start = refl;
        order = omega (arith, k.low);
        end = omega arith;
        is = subst (λ (j : ℕ). split_next (drop from s) ≡ scan (line_at s from j) (slice from j s) (drop j s)) z k.is
            ∙ ap (scan (line_at s from (length s)) (slice from (length s) s)) (drop-length s)
            ∙ ap (λ (l : List ℕ). record { front = slice from (length s) s; back = l }) (sym (drop-length s) ∙ ap (λ (j : ℕ). drop j s) (sym end));
      }
